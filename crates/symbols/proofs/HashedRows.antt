-- The rows of names in a map by hash, after a write at one of them.
use Rattle.std.proofs.Common.{◌≡◌, ℕ, cond, List, ◌∙◌, ap, Some}
use Rattle.std.specs.Prelude.{unwrap_or}
use Rattle.std.specs.HashMap.{HashMap, Updates}
use Rattle.std.specs.Str.{bytes_eq}
use Rattle.elf_model.specs.declared.name.Name.{Name}
use Rattle.elf_model.proofs.NamedEntries.{entries_updated}
use Rattle.symbols.specs.Lists.{NamedRow, row_in}
use Rattle.symbols.specs.Rows.{no_row, offered, taken, taken_in}
use Rattle.symbols.specs.declared.candidate.Candidate.{Candidate}
use Rattle.symbols.specs.declared.row.Row.{Row}
use Rattle.symbols.proofs.NameRows.{same_rows}

-- an entry's write, of the name's row with a candidate taken in, leaves the rows after its offer
pub written_offered :
    {S : Type 0} (m : HashMap (Name) Row S) (now : Row → HashMap (Name) Row S) (name : Name) (c : Candidate) (old row : Row) (fs : List NamedRow) →
    ((v : Row) → Updates (λ x y. bytes_eq x.0.now y.0.now) m (now v) name (Some v)) →
    old ≡ unwrap_or (row_in m.entries name.0.now) no_row → row ≡ taken_in c old → fs ≡ (now row).entries →
    row_in fs ≡ offered name.0.now c (row_in m.entries)
written_offered m now name c old row fs updates was is same =
    let row_is : row ≡ taken c (row_in m.entries name.0.now) = is ∙ ap (λ r. taken_in c r) was in
    same_rows (λ n.
    ap (λ es. row_in es n) same ∙ entries_updated m (now row) name (Some row) (updates row) n
    ∙ ap (λ r. cond (bytes_eq name.0.now n) (Some r) (row_in m.entries n)) row_is)

-- The flaws of the phase of references: of the kept relocations in load order each that isn't lawful, but of those to one
-- undefined name the first, with the number of the others; then the entry; then, object by object, each field that shares a
-- byte with one before it.
use Rattle.std.specs.Prelude.{◌≡◌, ◌≢◌, ◌⊎◌, ℕ, ◌+◌, ◌-◌, ◌^◌, true, false, cond, List, [], ◌∷◌, ◌++◌, Option, None, Some, length, min, option_map, set, slice_index_or}
use Rattle.std.specs.List.{slice_get}
use Rattle.std.specs.Str.{bytes_eq}
use Rattle.elf_model.specs.Inputs.ObjectFile.{relas_of, sections}
use Rattle.elf_model.specs.Link.Loading.{LoadedObject}
use Rattle.elf_model.specs.Link.Relocation.{AreFieldsApart, AreLawfulRelocations, IsLawfulRelocation, Relocation, is_kept_rela, is_some_kind, relocation_of}
use Rattle.elf_model.specs.Link.Resolution.{IsEntry}
use Rattle.elf_model.specs.declared.records.Rela.{Rela}
use Rattle.elf_model.specs.declared.records.SectionHeader.{SectionHeader}
use Rattle.relocate.specs.References.{IsUnlawful}
use Rattle.relocate.specs.declared.faults.RelocationFault.{RelocationFault}
use Rattle.relocate.specs.declared.faults.RelocationFault.TheVariants as wrong
use Rattle.search.specs.Loads.{LoadedPlan}
use Rattle.symbols.specs.Rows.{Rows}
use Rattle.symbols.specs.declared.candidate.Candidate.{Candidate}
use Rattle.symbols.specs.declared.candidate.CandidateKind.TheVariants as candidate_kind
use Rattle.symbols.specs.declared.row.Row.{Row}
use Rattle.flaws.specs.Flaws.{AreAdded}
use Rattle.wrong_references.specs.Entries.{EntryOf, entries}
use Rattle.wrong_references.specs.Overlaps.{AddsOverlaps, numbered}
use Rattle.wrong_references.specs.declared.flaw.EntryNumber.{EntryNumber}
use Rattle.wrong_references.specs.declared.flaw.ReferenceFlaw.{ReferenceFlaw}
use Rattle.wrong_references.specs.declared.flaw.ReferenceFlaw.TheVariants as flaw

-- the flaws so far, and of each name that one of them tells as undefined that one's number in the list
pub record Told : Type 0 where
  pub flaws : List ReferenceFlaw
  pub firsts : List ℕ → Option ℕ

abbrev pub nothing_told : Told
nothing_told = record { flaws = []; firsts = λ n. None }

-- the flaw of an entry that has a fault
abbrev pub flaw_at : EntryOf → RelocationFault → ReferenceFlaw
flaw_at e fault = flaw.Relocation e.relocation.object (record { table = e.table; number = e.number }) fault 0

-- one flaw more
abbrev pub with_flaw : ReferenceFlaw → Told → Told
with_flaw f t = record t { flaws = t.flaws ++ f ∷ [] }

-- one reference more to the name of a flaw; a count of 64 bits that is the greatest stays
abbrev pub counted : ReferenceFlaw → ReferenceFlaw
counted (flaw.Relocation k e fault others) = flaw.Relocation k e fault (min (others + 1) (2 ^ 64 - 1))
counted f = f

abbrev pub counted_at : ℕ → List ReferenceFlaw → List ReferenceFlaw
counted_at i flaws = set flaws i (counted (slice_index_or flaws i flaw.Entry))

-- a reference to an undefined name is a flaw, or counted at the name's flaw, where there is that one
abbrev pub with_first : Option ℕ → List ℕ → ReferenceFlaw → Told → Told
with_first None name f t = record { flaws = t.flaws ++ f ∷ []; firsts = λ n. cond (bytes_eq name n) (Some (length t.flaws)) (t.firsts n) }
with_first (Some i) name f t = record t { flaws = counted_at i t.flaws }

abbrev pub with_name : List ℕ → ReferenceFlaw → Told → Told
with_name name f t = with_first (t.firsts name) name f t

abbrev pub with_fault : EntryOf → RelocationFault → Told → Told
with_fault e wrong.Undefined t = with_name e.relocation.symbol.name (flaw_at e wrong.Undefined) t
with_fault e fault t = with_flaw (flaw_at e fault) t

-- what an entry adds: nothing where it is of type NONE, or lawful; else a fault that it has
abbrev pub AddsEntry : List LoadedObject → EntryOf → Told → Told → Type 0
AddsEntry objects e before after =
    ((is_some_kind e.relocation.entry ≡ false) × (after ≡ before))
    ⊎ (IsLawfulRelocation objects e.relocation × (after ≡ before))
    ⊎ ((fault : RelocationFault) × (is_some_kind e.relocation.entry ≡ true) × IsUnlawful objects e.relocation fault × (after ≡ with_fault e fault before))

-- and the entry, by its name, where it isn't one
abbrev pub AddsLostEntry : List LoadedObject → List ℕ → List ReferenceFlaw → List ReferenceFlaw → Type 0
AddsLostEntry objects name before after =
    (IsEntry objects name × (after ≡ before)) ⊎ ((¬ IsEntry objects name) × (after ≡ before ++ flaw.Entry ∷ []))

-- the flaws of the phase, where a name is the entry's
abbrev pub AreReferenceFlaws : List LoadedObject → List ℕ → List ReferenceFlaw → Type 0
AreReferenceFlaws objects name flaws =
    (told : Told)
    × AreAdded (AddsEntry objects) (entries objects) nothing_told told
    × (lost : List ReferenceFlaw)
    × AddsLostEntry objects name told.flaws lost
    × AreAdded AddsOverlaps (numbered 0 objects) lost flaws

-- nothing in the phase refuses the link
pub record AreReferable (objects : List LoadedObject) (name : List ℕ) : Type 0 where
  pub lawful : AreLawfulRelocations objects
  pub entry : IsEntry objects name

-- what a list of flaws and a table of names tell: a row has the number of its name's flaw
abbrev pub first_in : Option Row → Option ℕ
first_in None = None
first_in (Some row) = option_map (λ s. s.symbol) row.weak

abbrev pub candidate_at : ℕ → Candidate
candidate_at i = record { symbol = record { object = record { 0 = 0 }; symbol = i }; kind = candidate_kind.Weak; size = 0; align = 0 }

abbrev pub told_by : List ReferenceFlaw → Rows → Told
told_by flaws rows = record { flaws = flaws; firsts = λ n. first_in (rows n) }

-- an entry of a RELA section of object k, by its numbers, which is a kept relocation
pub record IsKeptEntry (objects : List LoadedObject) (k : ℕ) (e : EntryNumber) : Type 0 where
  pub o : LoadedObject
  pub h : SectionHeader
  pub x : Rela
  pub object : slice_get objects k ≡ Some o
  pub table : slice_get (sections o.bytes) e.table ≡ Some h
  pub kept : is_kept_rela o e.table h ≡ true
  pub entry : slice_get (relas_of o.bytes h) e.number ≡ Some x
  pub some_kind : is_some_kind x ≡ true

abbrev pub relocation_at : {objects : List LoadedObject} {k : ℕ} {e : EntryNumber} → IsKeptEntry objects k e → Relocation
relocation_at {objects} {k} {e} w = relocation_of k w.o w.h.sh_info w.x

-- a flaw is one of what is loaded: a kept relocation that isn't lawful, the entry by its name, or two kept relocations whose
-- fields share a byte
abbrev pub IsFlaw : LoadedPlan → ReferenceFlaw → Type 0
IsFlaw l (flaw.Relocation k e fault others) = (w : IsKeptEntry l.objects k e) × IsUnlawful l.objects (relocation_at w) fault
IsFlaw l flaw.Entry = ¬ IsEntry l.objects l.plan.entry
IsFlaw l (flaw.Overlap k e f) =
    (v : IsKeptEntry l.objects k e)
    × (w : IsKeptEntry l.objects k f)
    × (e ≢ f)
    × (¬ AreFieldsApart (relocation_at v) (relocation_at w))

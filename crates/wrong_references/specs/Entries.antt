-- The entries of the kept RELA sections of loaded objects, in load order.
use Rattle.std.specs.Prelude.{ℕ, ◌+◌, List, [], ◌∷◌, ◌++◌}
use Rattle.elf_model.specs.Inputs.ObjectFile.{relas_of, section, sections}
use Rattle.elf_model.specs.Link.Loading.{LoadedObject}
use Rattle.elf_model.specs.Link.Relocation.{Relocation, relocation_of}
use Rattle.elf_model.specs.declared.records.Rela.{Rela}
use Rattle.search.specs.KeptLists.{kept_relas}
use Rattle.search.specs.declared.kept_lists.KeptRela.{KeptRela}

-- an entry of a kept RELA section: the section's number, its own, and what it relocates
pub record EntryOf : Type 0 where
  pub table : ℕ
  pub number : ℕ
  pub relocation : Relocation

abbrev pub entry_of : ℕ → LoadedObject → KeptRela → ℕ → Rela → EntryOf
entry_of k o rela n x = record { table = rela.number; number = n; relocation = relocation_of k o rela.target x }

-- the entries of a kept RELA section from number n on, of several such sections, of the objects from number k on, and of all
abbrev pub entries_in : ℕ → LoadedObject → KeptRela → ℕ → List Rela → List EntryOf
entries_in k o rela n [] = []
entries_in k o rela n (x ∷ xs) = entry_of k o rela n x ∷ entries_in k o rela (n + 1) xs

abbrev pub rela_entries : LoadedObject → KeptRela → List Rela
rela_entries o rela = relas_of o.bytes (section (sections o.bytes) rela.number)

abbrev pub entries_of_relas : ℕ → LoadedObject → List KeptRela → List EntryOf
entries_of_relas k o [] = []
entries_of_relas k o (rela ∷ relas) = entries_in k o rela 0 (rela_entries o rela) ++ entries_of_relas k o relas

abbrev pub entries_of : ℕ → List LoadedObject → List EntryOf
entries_of k [] = []
entries_of k (o ∷ os) = entries_of_relas k o (kept_relas o) ++ entries_of (k + 1) os

abbrev pub entries : List LoadedObject → List EntryOf
entries objects = entries_of 0 objects

-- The kept relocations of an object, with the sections that they relocate and their places.
use Rattle.std.specs.Prelude.{◌≡◌, ℕ, ◌+◌, true, cond, List, [], ◌∷◌, ◌++◌, Some, unwrap_or}
use Rattle.std.specs.List.{flat_map, slice_get}
use Rattle.elf_model.specs.Link.Loading.{LoadedObject}
use Rattle.elf_model.specs.Inputs.ObjectFile.{relas, relas_of, section, sections}
use Rattle.elf_model.specs.Link.Relocation.{Relocation, is_kept_rela, is_some_kind, relocation_of}
use Rattle.elf_model.specs.declared.records.Rela.{Rela}
use Rattle.check_load.specs.Kept.{kept_relas}
use Rattle.check_load.specs.declared.kept_relocations.KeptRelocation.{KeptRelocation}
use Rattle.check_load.specs.declared.kept_sections.KeptRela.{KeptRela}

-- entry i of a RELA section
abbrev pub entry_at : KeptRela → ℕ → Rela → KeptRelocation
entry_at k i e = record { section = k.target; table = k.number; number = i; entry = e }

-- the same, where its type isn't NONE; those of such a type among entries from number i on
abbrev pub entry_if_kept : KeptRela → ℕ → Rela → List KeptRelocation
entry_if_kept k i e = cond (is_some_kind e) (entry_at k i e ∷ []) []

abbrev pub entries_behind : KeptRela → ℕ → List Rela → List KeptRelocation
entries_behind k i [] = []
entries_behind k i (e ∷ es) = entry_if_kept k i e ++ entries_behind k (i + 1) es

-- the relocations of a RELA section of an object, by its bytes, and of all its kept RELA sections
abbrev pub relocations_of_rela : List ℕ → KeptRela → List KeptRelocation
relocations_of_rela bytes k = entries_behind k 0 (unwrap_or (relas bytes k.number) [])

abbrev pub relocations_of_relas : List ℕ → List KeptRela → List KeptRelocation
relocations_of_relas bytes ks = flat_map (relocations_of_rela bytes) ks

abbrev pub kept_relocations : LoadedObject → List KeptRelocation
kept_relocations o = relocations_of_relas o.bytes (kept_relas o)

-- one of them as a relocation of the object that has a number
abbrev pub relocation_at : ℕ → LoadedObject → KeptRelocation → Relocation
relocation_at n o k = relocation_of n o k.section k.entry

-- it is an entry, of a type other than NONE, of a kept RELA section of the object
pub record IsKeptRelocation (o : LoadedObject) (k : KeptRelocation) : Type 0 where
  pub there : slice_get (sections o.bytes) k.table ≡ Some (section (sections o.bytes) k.table)
  pub kept : is_kept_rela o k.table (section (sections o.bytes) k.table) ≡ true
  pub section_is : k.section ≡ (section (sections o.bytes) k.table).sh_info
  pub entry_there : slice_get (relas_of o.bytes (section (sections o.bytes) k.table)) k.number ≡ Some k.entry
  pub some_kind : is_some_kind k.entry ≡ true

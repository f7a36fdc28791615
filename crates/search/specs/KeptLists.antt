-- What is kept of an object, as lists: the numbers of its sections, and the RELA sections of these.
use Rattle.std.specs.Prelude.{◌≡◌, ℕ, ◌+◌, true, cond, List, [], ◌∷◌, ◌++◌, Some, map}
use Rattle.std.specs.List.{flat_map, slice_get}
use Rattle.elf_model.specs.Link.Loading.{LoadedObject}
use Rattle.elf_model.specs.Inputs.ObjectFile.{section, sections}
use Rattle.elf_model.specs.Link.Pieces.{Piece, is_kept, piece_of}
use Rattle.elf_model.specs.Link.Relocation.{Relocation, is_kept_rela, relocations_in}
use Rattle.elf_model.specs.declared.records.SectionHeader.{SectionHeader}
use Rattle.search.specs.declared.kept_lists.KeptRela.{KeptRela}

-- an object of these bytes that loses these sections; what is kept of it goes by these two alone
abbrev pub object_of : List ℕ → List ℕ → LoadedObject
object_of bytes dropped = record { bytes = bytes; item = 0; offset = 0; path = []; dropped = dropped }

-- the number of section i, where that is kept, and the numbers of those from section i on
abbrev pub kept_at : List ℕ → ℕ → SectionHeader → List ℕ
kept_at dropped i h = cond (is_kept (object_of [] dropped) i h) (i ∷ []) []

abbrev pub kept_behind : List ℕ → ℕ → List SectionHeader → List ℕ
kept_behind dropped i [] = []
kept_behind dropped i (h ∷ hs) = kept_at dropped i h ++ kept_behind dropped (i + 1) hs

-- section i, where it is a kept RELA section, and those from section i on
abbrev pub rela_at : List ℕ → List ℕ → ℕ → SectionHeader → List KeptRela
rela_at bytes dropped i h = cond (is_kept_rela (object_of bytes dropped) i h) (record { target = h.sh_info; number = i } ∷ []) []

abbrev pub relas_behind : List ℕ → List ℕ → ℕ → List SectionHeader → List KeptRela
relas_behind bytes dropped i [] = []
relas_behind bytes dropped i (h ∷ hs) = rela_at bytes dropped i h ++ relas_behind bytes dropped (i + 1) hs

-- the numbers of the kept sections of an object, ascending, and its kept RELA sections by their numbers
abbrev pub kept_in : List ℕ → List ℕ → List ℕ
kept_in bytes dropped = kept_behind dropped 0 (sections bytes)

abbrev pub relas_in : List ℕ → List ℕ → List KeptRela
relas_in bytes dropped = relas_behind bytes dropped 0 (sections bytes)

abbrev pub kept_numbers : LoadedObject → List ℕ
kept_numbers o = kept_in o.bytes o.dropped

abbrev pub kept_relas : LoadedObject → List KeptRela
kept_relas o = relas_in o.bytes o.dropped

-- sections of an object as pieces
abbrev pub piece_at : ℕ → LoadedObject → ℕ → Piece
piece_at n o i = piece_of n o.bytes i (section (sections o.bytes) i)

abbrev pub pieces_at : ℕ → LoadedObject → List ℕ → List Piece
pieces_at n o is = map (piece_at n o) is

-- a kept section of an object, by its number, and a kept RELA section
pub record IsKeptSection (o : LoadedObject) (i : ℕ) : Type 0 where
  pub there : slice_get (sections o.bytes) i ≡ Some (section (sections o.bytes) i)
  pub kept : is_kept o i (section (sections o.bytes) i) ≡ true

pub record IsKeptRela (o : LoadedObject) (k : KeptRela) : Type 0 where
  pub there : slice_get (sections o.bytes) k.number ≡ Some (section (sections o.bytes) k.number)
  pub kept : is_kept_rela o k.number (section (sections o.bytes) k.number) ≡ true
  pub target_is : k.target ≡ (section (sections o.bytes) k.number).sh_info

-- the relocations of a RELA section, and of several
abbrev pub relocations_by : ℕ → LoadedObject → KeptRela → List Relocation
relocations_by n o k = relocations_in n o (section (sections o.bytes) k.number)

abbrev pub relocations_of_relas : ℕ → LoadedObject → List KeptRela → List Relocation
relocations_of_relas n o ks = flat_map (relocations_by n o) ks

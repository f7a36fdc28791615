-- What is kept of an object, as lists: the numbers of its sections, and the RELA sections of these.
use Rattle.std.specs.Prelude.{◌≡◌, ℕ, ◌+◌, true, cond, List, [], ◌∷◌, ◌++◌, Some}
use Rattle.std.specs.List.{slice_get}
use Rattle.elf_model.specs.Link.Loading.{LoadedObject}
use Rattle.elf_model.specs.Inputs.ObjectFile.{section, sections}
use Rattle.elf_model.specs.Link.Pieces.{Piece, is_kept, piece_of}
use Rattle.elf_model.specs.Link.Relocation.{is_kept_rela}
use Rattle.elf_model.specs.declared.records.SectionHeader.{SectionHeader}
use Rattle.check_load.specs.declared.kept_sections.KeptRela.{KeptRela}

-- an object of these bytes that loses these sections: these two alone tell what is kept of it
abbrev pub losing : List ℕ → List ℕ → LoadedObject
losing dropped bytes = record { bytes = bytes; item = 0; offset = 0; path = []; dropped = dropped }

-- the number of section i, where it is kept; the numbers of those that are kept among sections from number i on
abbrev pub number_if_kept : List ℕ → ℕ → SectionHeader → List ℕ
number_if_kept dropped i h = cond (is_kept (losing dropped []) i h) (i ∷ []) []

abbrev pub numbers_behind : List ℕ → ℕ → List SectionHeader → List ℕ
numbers_behind dropped i [] = []
numbers_behind dropped i (h ∷ hs) = number_if_kept dropped i h ++ numbers_behind dropped (i + 1) hs

-- section i, which has the header, as a RELA section
abbrev pub rela_at : ℕ → SectionHeader → KeptRela
rela_at i h = record { number = i; target = h.sh_info }

-- section i, where it is a kept RELA section; the kept RELA sections among sections from number i on
abbrev pub rela_if_kept : List ℕ → List ℕ → ℕ → SectionHeader → List KeptRela
rela_if_kept dropped bytes i h = cond (is_kept_rela (losing dropped bytes) i h) (rela_at i h ∷ []) []

abbrev pub relas_behind : List ℕ → List ℕ → ℕ → List SectionHeader → List KeptRela
relas_behind dropped bytes i [] = []
relas_behind dropped bytes i (h ∷ hs) = rela_if_kept dropped bytes i h ++ relas_behind dropped bytes (i + 1) hs

-- those of all sections of an object, by its bytes and what it loses
abbrev pub numbers_in : List ℕ → List ℕ → List ℕ
numbers_in dropped bytes = numbers_behind dropped 0 (sections bytes)

abbrev pub relas_in : List ℕ → List ℕ → List KeptRela
relas_in dropped bytes = relas_behind dropped bytes 0 (sections bytes)

abbrev pub kept_numbers : LoadedObject → List ℕ
kept_numbers o = numbers_in o.dropped o.bytes

abbrev pub kept_relas : LoadedObject → List KeptRela
kept_relas o = relas_in o.dropped o.bytes

-- section i of an object as a piece
abbrev pub piece_at : ℕ → LoadedObject → ℕ → Piece
piece_at n o i = piece_of n o.bytes i (section (sections o.bytes) i)

-- a number is that of a kept section of an object
pub record IsKeptSection (o : LoadedObject) (i : ℕ) : Type 0 where
  pub there : slice_get (sections o.bytes) i ≡ Some (section (sections o.bytes) i)
  pub kept : is_kept o i (section (sections o.bytes) i) ≡ true

-- a kept RELA section of an object
pub record IsKeptRela (o : LoadedObject) (k : KeptRela) : Type 0 where
  pub there : slice_get (sections o.bytes) k.number ≡ Some (section (sections o.bytes) k.number)
  pub kept : is_kept_rela o k.number (section (sections o.bytes) k.number) ≡ true
  pub target_is : k.target ≡ (section (sections o.bytes) k.number).sh_info

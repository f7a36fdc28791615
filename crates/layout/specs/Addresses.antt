-- A table of addresses by the numbers of objects and of their sections.
use Rattle.std.specs.Prelude.{ℕ, ◌<◌, ◌==◌, ◌++◌, ◌∷◌, [], List, Option, None, Some, cond, length, map, slice_index_or}
use Rattle.std.specs.Global.{Vec}
use Rattle.std.specs.List.{slice_get}
use Rattle.std.specs.Option.{option_and_then}
use Rattle.elf_model.specs.Link.Loading.{LoadedObject}
use Rattle.elf_model.specs.Inputs.ObjectFile.{sections}
use Rattle.elf_model.specs.Link.Placement.{Placed}

-- the address that an entry tells: none where it is 0
abbrev pub told : ℕ → Option ℕ
told n = cond (n == 0) None (Some n)

-- what a row has for a section, and a table for a section of an object; nothing where either isn't there
abbrev pub entry_in : List ℕ → ℕ → Option ℕ
entry_in row section = option_and_then told (slice_get row section)

abbrev pub entry : List (Vec ℕ) → ℕ → ℕ → Option ℕ
entry table object section = option_and_then (λ row. entry_in row.items section) (slice_get table object)

-- how long the rows are, and how many sections the objects have, and so many blocks and the GOT behind them
abbrev pub shape_of : List (Vec ℕ) → List ℕ
shape_of table = map (λ row. length row.items) table

abbrev pub section_counts : List LoadedObject → List ℕ
section_counts objects = map (λ o. length (sections o.bytes)) objects

abbrev pub piece_counts : List LoadedObject → ℕ → List ℕ
piece_counts objects blocks = section_counts objects ++ blocks ∷ 1 ∷ []

-- there is such an object with such a section
pub record HasEntry (counts : List ℕ) (object section : ℕ) : Type 0 where
  pub object_there : object < length counts
  pub section_there : section < slice_index_or counts object 0

abbrev pub HasPlace : List ℕ → Placed → Type 0
HasPlace counts q = HasEntry counts q.piece.object q.piece.section

-- The sections of debug data of objects, as they are looked up by their numbers.
use Rattle.std.specs.Prelude.{◌≡◌, ℕ, List, [], ◌∷◌, Option, Some, ⊤, length, option_map, unwrap_or}
use Rattle.std.specs.BTreeMap.{BTreeMap, get}
use Rattle.std.specs.List.{flat_map, range_with_len, slice_get}
use Rattle.std.specs.Option.{option_and_then}
use Rattle.std.specs.Ordering.{nat_cmp}
use Rattle.elf_model.specs.Link.Loading.{LoadedObject}
use Rattle.elf_model.specs.Inputs.ObjectFile.{relas, sections}
use Rattle.elf_model.specs.Link.Placement.{Placed}
use Rattle.elf_model.specs.declared.records.Rela.{Rela}
use Rattle.debug_image.specs.DebugSections.{debug_offset, offset_in_row}
use Rattle.debug_image.specs.DebugValues.{entries_at}
use Rattle.debug_image.specs.declared.data_index.DataSection.{DataSection}

abbrev pub DataIndex : Type 0
DataIndex = BTreeMap ℕ DataSection

-- an index of a row: the offset of each section in it, and of no other one
abbrev pub offset_at : DataIndex → ℕ → Option ℕ
offset_at d n = option_map (λ s. s.at) (get nat_cmp d n)

abbrev pub AreOffsets : List Placed → DataIndex → Type 0
AreOffsets row d = (n : ℕ) → offset_at d n ≡ offset_in_row n row

-- the entries of the sections that are listed for a section, which are those of the first sections of an object for it
abbrev pub relas_in : LoadedObject → ℕ → List Rela
relas_in o i = unwrap_or (relas o.bytes i) []

abbrev pub listed_entries : LoadedObject → DataSection → List Rela
listed_entries o s = flat_map (relas_in o) s.relas.items

abbrev pub AreRelas : LoadedObject → ℕ → DataIndex → Type 0
AreRelas o i d =
    (n : ℕ) (s : DataSection) → get nat_cmp d n ≡ Some s → listed_entries o s ≡ flat_map (entries_at o n) (range_with_len 0 i)

abbrev pub HasNoRelas : DataIndex → Type 0
HasNoRelas d = (n : ℕ) (s : DataSection) → get nat_cmp d n ≡ Some s → s.relas.items ≡ []

-- an index of the row of an object, and those of the rows of objects
pub record IsIndex (o : LoadedObject) (row : List Placed) (d : DataIndex) : Type 0 where
  pub offsets : AreOffsets row d
  pub relas : AreRelas o (length (sections o.bytes)) d

abbrev pub AreAll : List LoadedObject → List (List Placed) → List DataIndex → Type 0
AreAll [] [] [] = ⊤
AreAll (o ∷ os) (row ∷ rows) (d ∷ ds) = IsIndex o row d × AreAll os rows ds
AreAll _ _ _ = ⊥

pub record AreIndexes (objects : List LoadedObject) (rows : List (List Placed)) (ds : List DataIndex) : Type 0 where
  pub offsets : (k n : ℕ) → option_and_then (λ d. offset_at d n) (slice_get ds k) ≡ debug_offset rows k n
  pub relas : (k : ℕ) (o : LoadedObject) (d : DataIndex) → slice_get objects k ≡ Some o → slice_get ds k ≡ Some d → AreRelas o (length (sections o.bytes)) d

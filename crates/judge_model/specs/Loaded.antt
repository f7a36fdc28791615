-- F1. Which objects are loaded, and in which order (ld(1)). The objects are those of the profile's rule, and the order is
-- one that a linker may come to: what the command names stands in its order, and each member of an archive behind what
-- asks for it. It tells which copy of a COMDAT group and which of several weak definitions counts.
use Rattle.std.specs.Prelude.{◌≡◌, ◌⊎◌, ℕ, ◌<◌, ◌||◌, Bool, true, false, not, cond, List, [], ◌∷◌, AllPairs, Any, IsPermutation, length, map, slice_index_or, take}
use Rattle.std.specs.List.{slice_get}
use Rattle.std.specs.Option.{option_map_or}
use Rattle.elf_model.specs.Image.MapRecord.{ObjectRow}
use Rattle.elf_model.specs.Image.RightLink.{object_rows}
use Rattle.elf_model.specs.Inputs.Command.{Plan}
use Rattle.elf_model.specs.Inputs.Files.{File}
use Rattle.elf_model.specs.Inputs.Opening.{AreArchives, AreFilesThere, HaveIndexes, Opened, archive_data, archive_entries, opened}
use Rattle.elf_model.specs.Link.Loading.{AreObjects, HaveLawfulGroups, LoadedObject, loaded_objects, needed, with_object}

-- the objects of lines, in their order: each line names a member of its item's archive, or its item itself
abbrev pub row_bytes : Opened → ObjectRow → List ℕ
row_bytes o row = cond o.archive (archive_data o.bytes row.offset) o.bytes

abbrev pub with_row : List Opened → List LoadedObject → ObjectRow → List LoadedObject
with_row os objects row = option_map_or (λ o. with_object objects o row.offset (row_bytes o row)) (slice_get os row.item) objects

abbrev pub objects_behind : List Opened → List LoadedObject → List ObjectRow → List LoadedObject
objects_behind os objects [] = objects
objects_behind os objects (row ∷ rows) = objects_behind os (with_row os objects row) rows

unfoldable pub objects_in_order : List File → Plan → List ObjectRow → List LoadedObject
objects_in_order files plan rows = objects_behind (opened files plan) [] rows

-- which object it is: its item, and its member's header
pub record Origin : Type 0 where
  pub item : ℕ
  pub offset : ℕ

abbrev pub origin_of : LoadedObject → Origin
origin_of o = record { item = o.item; offset = o.offset }

-- the command itself names an object: an item that is one, or all members of an archive that is taken whole
abbrev pub is_named_by : Opened → Bool
is_named_by o = not o.archive || o.whole

abbrev pub is_named : List Opened → LoadedObject → Bool
is_named os o = option_map_or is_named_by (slice_get os o.item) false

-- the command names one before the other
abbrev pub IsNamedBefore : LoadedObject → LoadedObject → Type 0
IsNamedBefore o p = (o.item < p.item) ⊎ ((o.item ≡ p.item) × (o.offset < p.offset))

abbrev pub AreInTurn : List Opened → LoadedObject → LoadedObject → Type 0
AreInTurn os o p = is_named os o ≡ true → is_named os p ≡ true → IsNamedBefore o p

-- of another object, a name of its archive's index for it is needed behind those that stand before it
abbrev pub IsNeeded : List Opened → Plan → List LoadedObject → LoadedObject → Type 0
IsNeeded os plan before o =
    is_named os o ≡ false
    → Any (λ i. (i.number ≡ o.item) × Any (λ e. (e.offset ≡ o.offset) × (needed plan before e.name ≡ true)) (archive_entries i.bytes)) os

pub record IsInLoadingOrder (os : List Opened) (plan : Plan) (objects : List LoadedObject) : Type 0 where
  pub named : AllPairs (AreInTurn os) objects
  pub needed : (k : ℕ) (o : LoadedObject) → k < length objects → IsNeeded os plan (take k objects) (slice_index_or objects k o)

-- the inputs are files, archives and objects that can be read
pub record AreReadable (files : List File) (plan : Plan) : Type 0 where
  pub files_are : AreFilesThere files plan
  pub archives : AreArchives (opened files plan)
  pub indexes : HaveIndexes (opened files plan)
  pub objects : AreObjects (loaded_objects files plan)
  pub groups : HaveLawfulGroups (loaded_objects files plan)

pub record IsLoaded (files : List File) (plan : Plan) (rows : List ObjectRow) : Type 0 where
  pub rows_are : rows ≡ object_rows 0 (objects_in_order files plan rows)
  pub same : IsPermutation (map origin_of (loaded_objects files plan)) (map origin_of (objects_in_order files plan rows))
  pub order : IsInLoadingOrder (opened files plan) plan (objects_in_order files plan rows)

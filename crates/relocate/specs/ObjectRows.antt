-- The patches of an object by the sections that they are for.
use Rattle.std.specs.Prelude.{◌≡◌, ℕ, ◌-◌, ◌<◌, ◌≤◌, ◌++◌, List, drop, length, slice_index, take}
use Rattle.elf_model.specs.Link.Loading.{LoadedObject}
use Rattle.elf_model.specs.Link.Placement.{Where}
use Rattle.elf_model.specs.Link.Relocation.{Relocation}
use Rattle.reloc_values.specs.Patches.{IsPatchRow}
use Rattle.relocate.specs.Values.{patches_in, row_at}
use Rattle.relocate.specs.declared.object_rows.ObjectPatches.{ObjectPatches}
use Rattle.reloc_values.specs.declared.patch.Patch.{Patch}

-- the patches from a number on are put in the order of their places
pub record HasOrderedRow (begin : ℕ) (old new : List Patch) : Type 0 where
  pub row : List Patch
  pub is : new ≡ take begin old ++ row
  pub ordered : IsPatchRow (drop begin old) row

-- the rows of some relocations of an object: the last one ends with the list
pub record HasRows (objects : List LoadedObject) (w : Where) (rs : List Relocation) (rows : ObjectPatches) : Type 0 where
  pub each : (s : ℕ) → IsPatchRow (patches_in objects w rs s) (row_at rows s)
  pub inside : (s : ℕ) → slice_index rows.begins.items s ≤ length rows.patches.items
  pub last : 0 < length rows.begins.items → slice_index rows.begins.items (length rows.begins.items - 1) ≡ length rows.patches.items

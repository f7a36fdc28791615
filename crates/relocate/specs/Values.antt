-- The values that relocations want in a layout, as patches, and why there are none.
use Rattle.std.specs.Prelude.{◌≡◌, ◌==◌, ◌+◌, ◌%◌, ◌^◌, ◌<◌, ℕ, Bool, List, [], Some, All, IsSome, filter, find, length, map, option_map, slice_index, slice_index_or, slice_range, unwrap_or}
use Rattle.std.specs.List.{slice_get}
use Rattle.elf_model.specs.Link.Loading.{LoadedObject}
use Rattle.elf_model.specs.Own.OwnLayout.{OwnValuesFit, own_where}
use Rattle.elf_model.specs.Link.Placement.{Where}
use Rattle.elf_model.specs.Link.Relocation.{AreLawfulRelocations, Relocation, is_in_field, relocation_kind, relocations, relocations_from, width_of}
use Rattle.elf_model.specs.Link.RelocationValues.{Fits, value_of}
use Rattle.elf_model.specs.Link.Slots.{Request, slot_value}
use Rattle.elf_model.specs.Link.ThreadStorage.{block_in}
use Rattle.relocate.specs.declared.faults.RelocFault.{RelocFault}
use Rattle.relocate.specs.declared.faults.RelocFault.TheVariants as error
use Rattle.layout.specs.Placements.{Basis}
use Rattle.reloc_values.specs.ThreadOffsets.{thread_pointer}
use Rattle.reloc_values.specs.Patches.{IsPatchRow, covers}
use Rattle.relocate.specs.declared.object_rows.ObjectPatches.{ObjectPatches}
use Rattle.reloc_values.specs.declared.patch.Patch.{Patch}
use Rattle.relocate.specs.declared.values.Fitting.{Fitting}

-- where things are by the own layout
abbrev pub where_in : Basis → Where
where_in b = own_where b.base b.objects

-- the thread pointer, modulo 2 ^ 64
abbrev pub pointer_in : Where → ℕ
pointer_in w = thread_pointer (block_in w) % 2 ^ 64

-- the value of the slot that a request asks for
abbrev pub slot_value_of : List LoadedObject → Where → Request → ℕ
slot_value_of objects w q = slot_value objects w q.kind q.target

-- the value that a relocation wants, and the width of its field
abbrev pub fitting_of : List LoadedObject → Where → Relocation → Fitting
fitting_of objects w r = record { value = value_of objects w r; width = width_of r }

-- that value over its field
abbrev pub patch_of : List LoadedObject → Where → Relocation → Patch
patch_of objects w r = record { at = r.entry.r_offset; value = value_of objects w r; width = width_of r }

-- why relocations have no patches
abbrev pub FittingFails : List LoadedObject → Where → List Relocation → RelocFault → Type 0
FittingFails objects w rs error.Memory = Unit {0}
FittingFails objects w rs error.Overflow = ¬ All (Fits objects w) rs
FittingFails objects w rs _ = ⊥

-- the patches of a list of relocations by the numbers of the sections that they relocate
abbrev pub is_in_section : ℕ → Relocation → Bool
is_in_section s r = r.section == s

abbrev pub patches_in : List LoadedObject → Where → List Relocation → ℕ → List Patch
patches_in objects w rs s = map (patch_of objects w) (filter (is_in_section s) rs)

-- the patches of section s of an object, none where it has no end
abbrev pub row_at : ObjectPatches → ℕ → List Patch
row_at own s = slice_range own.patches.items (slice_index own.begins.items s) (slice_index own.begins.items (s + 1))

-- the patches of section s of object number k, none where there is no such object
abbrev pub row_in : List ObjectPatches → ℕ → ℕ → List Patch
row_in rows k s = unwrap_or (option_map (λ own. row_at own s) (slice_get rows k)) []

-- the patches of a row have the fields of the relocations of section s of object number k: the one that has a byte is that of
-- the relocation that has it
abbrev pub HasFields : List LoadedObject → Where → ℕ → ℕ → List Patch → Type 0
HasFields objects w k s row =
    (j : ℕ) → find (covers j) row ≡ option_map (patch_of objects w) (find (is_in_field k s j) (relocations objects))

-- the patches of an object: those of each section in the order of their places
pub record ArePatchRows (objects : List LoadedObject) (w : Where) (rs : List Relocation) (own : ObjectPatches) : Type 0 where
  pub each : (s : ℕ) → IsPatchRow (patches_in objects w rs s) (row_at own s)

-- the patches of all objects, whose relocations are lawful, laid out from a base on
pub record ArePatches (b : Basis) (rows : List ObjectPatches) : Type 0 where
  pub lawful : AreLawfulRelocations b.objects
  pub count : length rows ≡ length b.objects
  pub each :
      (k : ℕ) (o : LoadedObject) (d : ObjectPatches) → slice_get b.objects k ≡ Some o
      → ArePatchRows b.objects (where_in b) (relocations_from k o) (slice_index_or rows k d)

-- why objects have no patches
abbrev pub ValuesFail : Basis → RelocFault → Type 0
ValuesFail b error.Memory = Unit {0}
ValuesFail b error.Overflow = ¬ OwnValuesFit b.base b.objects
ValuesFail b _ = ⊥

-- a relocation that gets a patch: it is of a known kind, and its place has 32 bits
pub record IsPatchable (r : Relocation) : Type 0 where
  pub known : IsSome (relocation_kind r)
  pub short : r.entry.r_offset < 2 ^ 32

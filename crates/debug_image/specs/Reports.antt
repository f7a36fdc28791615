-- Debug data that are left out of an image: of how many objects, how many sections they are, and in how many of the objects some are
-- compressed.
use Rattle.std.specs.Prelude.{ℕ, ◌+◌, ◌%◌, ◌^◌, ◌&&◌, Bool, cond, List, [], ◌∷◌, count_by}
use Rattle.std.specs.List.{list_any}
use Rattle.elf_model.specs.Link.Loading.{LoadedObject}
use Rattle.debug_image.specs.DebugSections.{holds_debug_data, is_compressed, is_flagged, left_flags}
use Rattle.debug_image.specs.ObjectSections.{numbers}
use Rattle.debug_image.specs.declared.reports.LeftData.{LeftData}

abbrev pub left_objects : List Bool → ℕ
left_objects flags = count_by (λ b. b) flags

-- the sections of debug data of an object, and of all objects that are left out
abbrev pub sections_in : LoadedObject → ℕ
sections_in o = count_by (holds_debug_data o) (numbers o)

abbrev pub left_sections : List Bool → ℕ → List LoadedObject → ℕ
left_sections flags k [] = 0
left_sections flags k (o ∷ os) = cond (is_flagged flags k) (sections_in o) 0 + left_sections flags (k + 1) os

-- an object has compressed debug data, and so is left out
abbrev pub holds_compressed : LoadedObject → ℕ → Bool
holds_compressed o i = holds_debug_data o i && is_compressed o i

abbrev pub has_compressed : LoadedObject → Bool
has_compressed o = list_any (holds_compressed o) (numbers o)

-- these counts of objects, that of sections modulo 2 ^ 64
abbrev pub left_data : List LoadedObject → LeftData
left_data objects = record {
  objects = left_objects (left_flags objects);
  sections = left_sections (left_flags objects) 0 objects % 2 ^ 64;
  compressed = count_by has_compressed objects;
}

abbrev pub none_left : LeftData
none_left = record { objects = 0; sections = 0; compressed = 0 }

-- The file of an image for tools as it is written, part by part, and what is said of its debug data.
use Rattle.std.specs.Prelude.{◌≡◌, ℕ, ◌++◌, Bool, cond, List, Option, None, Some}
use Rattle.std.specs.List.{flat_map}
use Rattle.std.specs.Option.{option_to_list}
use Rattle.elf_model.specs.Link.Meaning.{Meaning}
use Rattle.elf_model.specs.declared.references.SectionRef.{SectionRef}
use Rattle.image_write.specs.Linkages.{Linked}
use Rattle.debug_image.specs.DebugImage.{chunks_in, data_end_in, front_of, rows_in, tables_in}
use Rattle.debug_image.specs.DebugLayouts.{IsFound, data_in}
use Rattle.debug_image.specs.DebugSections.{Chunk}
use Rattle.debug_image.specs.DebugValues.{Data, all_bytes, has_left}
use Rattle.debug_image.specs.DebugViews.{chunk_views, row_views}
use Rattle.debug_image.specs.Tables.{tail}
use Rattle.debug_image.specs.declared.debug_file.DebugParts.{DebugParts}
use Rattle.debug_image.specs.declared.debug_file.Wanted.{Wanted}
use Rattle.debug_image.specs.declared.debug_values.DataLayout.{DataLayout}

-- the parts one after the other: the image in front, the debug data with what relocations want, the tables
abbrev pub file_of : DataLayout → DebugParts → List ℕ
file_of l p = p.front.items ++ (all_bytes (data_in l) (chunk_views p.chunks.items) ++ p.tail.items)

-- the parts are those of the image for tools of a link, of names that mean what is listed
pub record AreParts (l : Linked) (ms : List Meaning) (w : Wanted) (p : DebugParts) : Type 0 where
  pub front : p.front.items ≡ front_of l (tables_in w l ms) (data_end_in w l)
  pub chunks : chunk_views p.chunks.items ≡ chunks_in w l
  pub tail_is : p.tail.items ≡ tail (data_end_in w l) (tables_in w l ms)
  pub rows : row_views p.data.rows.items ≡ rows_in w l.objects
  pub found : IsFound l.objects p.data

-- a section of debug data, where some of its relocations can't be done
abbrev pub left_if : Bool → Chunk → Option SectionRef
left_if is_left c = cond is_left (Some (record { object = record { 0 = c.place.piece.object }; section = c.place.piece.section })) None

abbrev pub left_at : Data → Chunk → Option SectionRef
left_at d c = left_if (has_left d c.place) c

-- those of some sections
abbrev pub left_of : Data → List Chunk → List SectionRef
left_of d cs = flat_map (λ c. option_to_list (left_at d c)) cs

-- The parts of memory of which bounds tell, and what the bounds are.
use Rattle.std.specs.Prelude.{◌≡◌, ◌==◌, ◌&&◌, ℕ, Bool, List, Option, None, Some, cond, filter, nat_lt, not, option_map, unwrap_or}
use Rattle.std.specs.BTreeMap.{BTreeMap, get_by}
use Rattle.std.specs.Borrow.{Bor}
use Rattle.std.specs.Cmp.Lexicographic.{slice_cmp}
use Rattle.std.specs.Option.{option_map_or}
use Rattle.std.specs.Ordering.{nat_cmp}
use Rattle.std.specs.Str.{bytes_eq}
use Rattle.elf_model.specs.Link.LinkerNames.{named_output}
use Rattle.elf_model.specs.Link.LinkerValues.{end_of_pieces, is_code_piece, is_file_data, is_loaded_piece, is_zero_data, start_of_pieces}
use Rattle.elf_model.specs.Link.Pieces.{Piece, is_nobits, is_of_output, is_thread_local, is_thread_piece}
use Rattle.elf_model.specs.Link.Placement.{Placed}
use Rattle.elf_model.specs.Link.ThreadStorage.{is_some_thread_data}
use Rattle.elf_model.specs.declared.bound.Bound.{Bound}
use Rattle.elf_model.specs.declared.records.SectionHeader.{SectionHeader}
use Rattle.elf_model.specs.declared.bound.Bound.TheVariants.{CodeEnd, DataEnd, GotStart, ImageEnd, ImageStart, OutputEnd, OutputStart, ZeroStart}
use Rattle.layout.specs.declared.bounds.Bounds.{Bounds}
use Rattle.layout.specs.declared.bounds.Extent.{Extent}
use Rattle.layout.specs.declared.bounds.Last.{Last}
use Rattle.layout.specs.declared.bounds.Bounded.{Bounded}
use Rattle.layout.specs.declared.bounds.Bounded.TheVariants as bounded

-- a section is thread-local, and has some bytes in the file
abbrev pub is_nonempty_thread_data : SectionHeader → Bool
is_nonempty_thread_data h = (is_thread_local h && not (is_nobits h)) && nat_lt 0 h.sh_size

abbrev pub part_test : Bounded → Piece → Bool
part_test bounded.Loaded = is_loaded_piece
part_test bounded.Code = is_code_piece
part_test bounded.FileData = is_file_data
part_test bounded.Zeros = is_zero_data
part_test bounded.Threads = is_thread_piece
part_test bounded.ThreadData = is_some_thread_data

-- where the pieces of an output name begin and end by a table
abbrev pub extent_in : BTreeMap (Bor (List ℕ)) Extent → List ℕ → Option Extent
extent_in extents name = get_by (λ k. slice_cmp nat_cmp name k.now) extents

abbrev pub start_in : BTreeMap (Bor (List ℕ)) Extent → List ℕ → Option ℕ
start_in extents name = option_map (λ e. e.start) (extent_in extents name)

abbrev pub end_in : BTreeMap (Bor (List ℕ)) Extent → List ℕ → ℕ
end_in extents name = option_map_or (λ e. e.end) (extent_in extents name) 0

-- by a table and the extent of the name of the last piece, which the table has not
abbrev pub extent_with : Option Last → BTreeMap (Bor (List ℕ)) Extent → List ℕ → Option Extent
extent_with None extents name = extent_in extents name
extent_with (Some l) extents name = cond (bytes_eq l.name.now name) (Some l.extent) (extent_in extents name)

abbrev pub start_with : Option Last → BTreeMap (Bor (List ℕ)) Extent → List ℕ → Option ℕ
start_with last extents name = option_map (λ e. e.start) (extent_with last extents name)

abbrev pub end_with : Option Last → BTreeMap (Bor (List ℕ)) Extent → List ℕ → ℕ
end_with last extents name = option_map_or (λ e. e.end) (extent_with last extents name) 0

-- the last piece is of an output name, whose extent is this one
abbrev pub IsLast : Option Last → List ℕ → Extent → Type 0
IsLast None name e = ⊥
IsLast (Some l) name e = (l.name.now ≡ name) × (l.extent ≡ e)

pub record AreExtents (qs : List Placed) (extents : BTreeMap (Bor (List ℕ)) Extent) : Type 0 where
  pub starts : (name : List ℕ) → start_in extents name ≡ start_of_pieces (is_of_output name) qs
  pub ends : (name : List ℕ) → end_in extents name ≡ end_of_pieces (is_of_output name) qs

-- a place of another object than the one with a number
abbrev pub is_other : ℕ → Placed → Bool
is_other number q = not (q.piece.object == number)

-- the bounds of places: the parts take in the GOT, which has this number, and the output names don't
pub record AreBounds (got : ℕ) (qs : List Placed) (b : Bounds) : Type 0 where
  pub code_end : b.code_end ≡ end_of_pieces is_code_piece qs
  pub data_end : b.data_end ≡ end_of_pieces is_file_data qs
  pub zero_start : b.zero_start ≡ unwrap_or (start_of_pieces is_zero_data qs) 0
  pub image_end : b.image_end ≡ end_of_pieces is_loaded_piece qs
  pub outputs : AreExtents (filter (is_other got) qs) b.outputs

-- what the linker's names stand for by the bounds, in an image that is mapped from a base on, with its GOT at an address
abbrev pub bound_at : ℕ → ℕ → Bounds → List ℕ → Bound → ℕ
bound_at base got b name ImageStart = base
bound_at base got b name CodeEnd = b.code_end
bound_at base got b name DataEnd = b.data_end
bound_at base got b name ZeroStart = b.zero_start
bound_at base got b name ImageEnd = b.image_end
bound_at base got b name GotStart = got
bound_at base got b name OutputStart = unwrap_or (start_in b.outputs (named_output name)) 0
bound_at base got b name OutputEnd = end_in b.outputs (named_output name)

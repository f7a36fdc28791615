-- The parts of memory of which bounds tell, and what the bounds are.
use Rattle.std.specs.Prelude.{◌≡◌, ◌+◌, ◌^◌, ◌≤◌, max, Bool, List, All, Option, IfSome, unwrap_or}
use Rattle.elf_model.specs.Link.LinkerValues.{end_of_pieces, is_code_piece, is_file_data, is_loaded_piece, is_zero_data, start_of_pieces}
use Rattle.elf_model.specs.Link.Pieces.{Piece, is_thread_piece}
use Rattle.elf_model.specs.Link.Placement.{Placed, got_end}
use Rattle.elf_model.specs.Link.ThreadStorage.{is_some_thread_data, is_thread_data}
use Rattle.elf_model.specs.declared.link_map.GotLine.{GotLine}
use Rattle.check_link.specs.declared.bounds.Bounds.{Bounds}
use Rattle.check_link.specs.declared.bounds.Part.{Part}
use Rattle.check_link.specs.declared.bounds.Part.TheVariants as part

abbrev pub part_test : Part → Piece → Bool
part_test part.Loaded = is_loaded_piece
part_test part.Code = is_code_piece
part_test part.FileData = is_file_data
part_test part.Zeros = is_zero_data
part_test part.Thread = is_thread_piece
part_test part.ThreadData = is_thread_data
part_test part.SomeThreadData = is_some_thread_data

-- a piece ends at or below 2 ^ 47
abbrev pub IsInLimit : Placed → Type 0
IsInLimit q = q.at + q.piece.size ≤ 2 ^ 47

abbrev pub AreInLimit : List Placed → Type 0
AreInLimit qs = All IsInLimit qs

-- and the GOT, where there is one, at or below 2 ^ 46
abbrev pub IsGotInLimit : Option GotLine → Type 0
IsGotInLimit got = IfSome got (λ g. g.address + g.size ≤ 2 ^ 46)

pub record AreBounds (qs : List Placed) (got : Option GotLine) (b : Bounds) : Type 0 where
  pub code_end : b.code_end ≡ end_of_pieces is_code_piece qs
  pub data_end : b.data_end ≡ max (end_of_pieces is_file_data qs) (got_end got)
  pub zero_start : b.zero_start ≡ unwrap_or (start_of_pieces is_zero_data qs) 0
  pub image_end : b.image_end ≡ max (end_of_pieces is_loaded_piece qs) (got_end got)

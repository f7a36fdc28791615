-- Where the names that the linker itself defines stand (profile).
use Rattle.std.specs.Prelude.{ℕ, ◌+◌, ◌&&◌, Bool, not, cond, List, [], ◌∷◌, Option, None, Some, max, min, unwrap_or}
use Rattle.elf_model.specs.Link.LinkerNames.{named_output}
use Rattle.elf_model.specs.Link.Pieces.{Piece, has_bytes, is_of_output, is_executable, is_nobits, is_thread_local, is_thread_zero, is_writable}
use Rattle.elf_model.specs.Link.Placement.{Placed, Where, got_end, got_start}
use Rattle.elf_model.specs.declared.bound.Bound.{Bound}
use Rattle.elf_model.specs.declared.bound.Bound.TheVariants.{CodeEnd, DataEnd, GotStart, ImageEnd, ImageStart, OutputEnd, OutputStart, ZeroStart}

-- the greatest end of the pieces of which a test is true; 0 of none
abbrev pub end_of_pieces : (Piece → Bool) → List Placed → ℕ
end_of_pieces test [] = 0
end_of_pieces test (q ∷ qs) =
    cond (test q.piece) (max (q.at + q.piece.size) (end_of_pieces test qs)) (end_of_pieces test qs)

-- their least address; None of none
abbrev pub least_of : ℕ → Option ℕ → ℕ
least_of a None = a
least_of a (Some b) = min a b

abbrev pub start_of_pieces : (Piece → Bool) → List Placed → Option ℕ
start_of_pieces test [] = None
start_of_pieces test (q ∷ qs) =
    cond (test q.piece) (Some (least_of q.at (start_of_pieces test qs))) (start_of_pieces test qs)

abbrev pub is_code_piece : Piece → Bool
is_code_piece p = is_executable p.header

abbrev pub is_file_data : Piece → Bool
is_file_data p = is_writable p.header && has_bytes p

abbrev pub is_zero_data : Piece → Bool
is_zero_data p = is_nobits p.header && not (is_thread_local p.header)

abbrev pub is_loaded_piece : Piece → Bool
is_loaded_piece p = not (is_thread_zero p)

-- the value of a name of the linker's, which stands for a bound
abbrev pub bound_value : Where → List ℕ → Bound → ℕ
bound_value w name ImageStart = w.base
bound_value w name CodeEnd = end_of_pieces is_code_piece w.placed
bound_value w name DataEnd = max (end_of_pieces is_file_data w.placed) (got_end w.got)
bound_value w name ZeroStart = unwrap_or (start_of_pieces is_zero_data w.placed) 0
bound_value w name ImageEnd = max (end_of_pieces is_loaded_piece w.placed) (got_end w.got)
bound_value w name GotStart = got_start w.got
bound_value w name OutputStart = unwrap_or (start_of_pieces (is_of_output (named_output name)) w.placed) 0
bound_value w name OutputEnd = end_of_pieces (is_of_output (named_output name)) w.placed

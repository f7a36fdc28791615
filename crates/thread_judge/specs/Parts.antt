-- The parts of the thread-local pieces, and words on them for this crate's own functions.
use Rattle.std.specs.Prelude.{◌≡◌, ℕ, ◌+◌, ◌≤◌, Bool, true, List, All, cond, max}
use Rattle.elf_model.specs.Link.Pieces.{Piece, is_thread_piece, is_thread_zero}
use Rattle.elf_model.specs.Link.Placement.{Placed}
use Rattle.elf_model.specs.Link.ThreadStorage.{is_some_thread_data, is_thread_data}
use Rattle.elf_model.specs.declared.records.ProgramHeader.{ProgramHeader}
use Rattle.judge_model.specs.Placed.{IsLow}
use Rattle.judge_model.specs.ThreadBlocks.{is_some_thread}
use Rattle.thread_judge.specs.declared.parts.Part.{Part}
use Rattle.thread_judge.specs.declared.parts.Part.TheVariants as part

abbrev pub part_test : Part → Piece → Bool
part_test part.All = is_thread_piece
part_test part.Some = is_some_thread
part_test part.Data = is_thread_data
part_test part.SomeData = is_some_thread_data
part_test part.Zeros = is_thread_zero

abbrev pub AreLow : List Placed → Type 0
AreLow qs = All IsLow qs

-- an alignment, or that of a piece of a part where it is greater
abbrev pub greater : (Piece → Bool) → ℕ → Placed → ℕ
greater test align q = cond (test q.piece) (max align q.piece.align) align

-- a thread-local piece isn't empty; one without bytes begins at or behind an address
pub record IsSome (q : Placed) : Type 0 where
  pub some : is_some_thread q.piece ≡ true

pub record IsBehind (end : ℕ) (q : Placed) : Type 0 where
  pub behind : is_thread_zero q.piece ≡ true → end ≤ q.at

-- two headers lie at the same place of the file as in memory
abbrev pub IsSamePlace : ProgramHeader → ProgramHeader → Type 0
IsSamePlace h g = h.p_offset + g.p_vaddr ≡ g.p_offset + h.p_vaddr

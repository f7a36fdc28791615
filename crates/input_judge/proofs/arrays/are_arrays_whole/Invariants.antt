use Rattle.std.proofs.Common.{drop}
use Rattle.std.specs.Prelude.{All}
use Rattle.check_link.specs.Views.{piece_views}
use Rattle.elf_model.proofs.Rests.{Left}
use Rattle.judge_model.specs.RightForeign.{IsWholeArray}
use Rattle.input_judge.proofs.arrays.are_arrays_whole.Given as goal

abbrev pub invariant-loop-piece : goal.invariant-loop-piece
invariant-loop-piece l = Left (All IsWholeArray (piece_views l.pieces)) (All IsWholeArray (piece_views (drop l.piece-index l.pieces)))

use Rattle.std.proofs.Common.{drop}
use Rattle.std.specs.Prelude.{All}
use Rattle.check_link.specs.Views.{piece_view}
use Rattle.elf_model.proofs.Rests.{Left}
use Rattle.keep_judge.specs.Kept.{IsKeptIn}
use Rattle.keep_judge.proofs.kept.are_kept_right.Given as goal

abbrev pub invariant-loop-piece : goal.invariant-loop-piece
invariant-loop-piece l =
    Left (All (λ p. IsKeptIn l.drops (piece_view p)) l.pieces) (All (λ p. IsKeptIn l.drops (piece_view p)) (drop l.piece-index l.pieces))

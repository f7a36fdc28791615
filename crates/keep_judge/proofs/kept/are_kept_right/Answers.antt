use Rattle.std.specs.Prelude.{All}
use Rattle.check_link.specs.Views.{piece_view}
use Rattle.check_link.specs.declared.things.Piece.{Piece}
use Rattle.elf_model.proofs.Rests.{all_more}
use Rattle.keep_judge.specs.Kept.{IsKeptIn}
use Rattle.keep_judge.proofs.kept.are_kept_right.Goals as goal

pub loop-piece-preserved : goal.loop-piece-preserved
loop-piece-preserved c =
    all_more (All (λ (p : Piece). IsKeptIn c.args.drops.now (piece_view p)) c.args.pieces.now) (λ (p : Piece). IsKeptIn c.args.drops.now (piece_view p))
    c.args.pieces.now c.loop-piece.piece-index _ c.loop-piece-test.true (c.is_kept_right.ensures.0 c.if-not-is_kept_right.false) c.loop-piece.invariant

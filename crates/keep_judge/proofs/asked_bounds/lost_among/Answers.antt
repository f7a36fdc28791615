use Rattle.std.proofs.Common.{◌∙◌}
use Rattle.check_link.specs.Views.{piece_view}
use Rattle.check_link.specs.declared.things.Piece as code
use Rattle.keep_judge.specs.Collected.{is_lost_by}
use Rattle.keep_judge.proofs.GroupMarks.{any_viewed, none_left, taken}
use Rattle.keep_judge.proofs.asked_bounds.lost_among.Goals as goal

pub loop-piece-preserved : goal.loop-piece-preserved
loop-piece-preserved c = λ name.
    taken (λ (p : code.Piece). is_lost_by c.args.drops.now name (piece_view p)) c.args.pieces.now c.loop-piece.piece-index _ c.loop-piece-test.true _ _ _
    (c.in_ok-add_lost.ensures name) (c.loop-piece.invariant name)

pub returns : goal.returns
returns c = λ name.
    none_left (λ (p : code.Piece). is_lost_by c.args.drops.now name (piece_view p)) c.args.pieces.now c.loop-piece.piece-index _ _ c.loop-piece-test.false
    (c.loop-piece.invariant name)
    ∙ any_viewed piece_view (is_lost_by c.args.drops.now name) c.args.pieces.now

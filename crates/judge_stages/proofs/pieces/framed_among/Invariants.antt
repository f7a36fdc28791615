use Rattle.std.proofs.Common.{◌≡◌, ◌++◌, drop}
use Rattle.std.specs.Prelude.{filter}
use Rattle.check_link.specs.Views.{piece_views}
use Rattle.judge_stages.specs.Stages.{is_framed_by}
use Rattle.judge_stages.proofs.pieces.framed_among.Given as goal

abbrev pub invariant-loop-piece : goal.invariant-loop-piece
invariant-loop-piece l =
    piece_views l.framed.items ++ filter (is_framed_by l.keys) (piece_views (drop l.piece-index l.pieces)) ≡ filter (is_framed_by l.keys) (piece_views l.pieces)

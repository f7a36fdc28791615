use Rattle.std.proofs.Common.{◌≡◌, ◌++◌, drop}
use Rattle.std.specs.Prelude.{filter}
use Rattle.check_link.specs.Views.{piece_views}
use Rattle.judge_stages.specs.Stages.{is_there}
use Rattle.judge_stages.proofs.pieces.those_there.Given as goal

abbrev pub invariant-loop-piece : goal.invariant-loop-piece
invariant-loop-piece l =
    piece_views l.there.items ++ filter (is_there l.drops) (piece_views (drop l.piece-index l.pieces)) ≡ filter (is_there l.drops) (piece_views l.pieces)

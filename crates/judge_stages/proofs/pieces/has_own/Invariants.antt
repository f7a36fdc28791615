use Rattle.std.proofs.Common.{◌≡◌, drop}
use Rattle.std.specs.List.{list_any}
use Rattle.check_link.specs.Views.{piece_views}
use Rattle.judge_stages.specs.Stages.{has_own_by}
use Rattle.judge_stages.proofs.pieces.has_own.Given as goal

abbrev pub invariant-loop-piece : goal.invariant-loop-piece
invariant-loop-piece l = list_any (has_own_by l.keys) (piece_views (drop l.piece-index l.pieces)) ≡ list_any (has_own_by l.keys) (piece_views l.pieces)

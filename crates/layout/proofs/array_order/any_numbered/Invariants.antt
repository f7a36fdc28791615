use Rattle.std.proofs.Common.{◌≡◌, drop}
use Rattle.std.specs.List.{list_any}
use Rattle.layout.specs.Arrays.{has_number}
use Rattle.placing.specs.Views.{borrowed_views}
use Rattle.layout.proofs.array_order.any_numbered.Given as goal

abbrev pub invariant-loop-piece : goal.invariant-loop-piece
invariant-loop-piece l = list_any has_number (borrowed_views (drop l.piece-index l.pieces)) ≡ list_any has_number (borrowed_views l.pieces)

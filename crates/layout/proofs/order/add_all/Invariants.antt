use Rattle.std.proofs.Common.{◌≡◌, ◌++◌, drop}
use Rattle.placing.specs.Views.{borrowed_views, piece_views}
use Rattle.layout.proofs.order.add_all.Given as goal

abbrev pub invariant-loop-piece : goal.invariant-loop-piece
invariant-loop-piece l = borrowed_views l.out.items ++ piece_views (drop l.piece-index l.pieces) ≡ borrowed_views l.fn.out.items ++ piece_views l.pieces

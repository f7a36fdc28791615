use Rattle.std.proofs.Common.{◌≡◌, ◌++◌, drop}
use Rattle.std.specs.Prelude.{map}
use Rattle.linkmap.specs.Borrowed.{place_row}
use Rattle.elf_model.specs.Link.Placement.{placed_by}
use Rattle.check_link.specs.Views.{piece_views, placed_views}
use Rattle.check_link.proofs.placed_pieces.place.Given as goal

abbrev pub invariant-loop-i : goal.invariant-loop-i
invariant-loop-i l =
    placed_views l.placed.items ++ placed_by (map place_row (drop l.i l.rows)) (piece_views (drop l.i l.pieces))
    ≡ placed_by (map place_row l.rows) (piece_views l.pieces)

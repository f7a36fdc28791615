use Rattle.std.proofs.Common.{arith}
use Rattle.std.specs.Prelude.{map}
use Rattle.linkmap.specs.Borrowed.{place_row}
use Rattle.elf_model.specs.Link.Placement.{placed_by}
use Rattle.check_link.specs.Views.{piece_views}
use Rattle.check_link.proofs.PlaceSteps.{place_end}
use Rattle.check_link.proofs.placed_pieces.place.Goals as goal

pub returns : goal.returns
returns c =
    place_end c.loop-i.placed.items (placed_by (map place_row c.args.rows.now) (piece_views c.args.pieces.now)) c.args.rows.now
    c.args.pieces.now c.loop-i.i (omega (arith, c.min-count.ensures)) c.loop-i.invariant

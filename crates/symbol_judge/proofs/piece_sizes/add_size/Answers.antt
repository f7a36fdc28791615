use Rattle.std.proofs.Common.{◌∙◌, sym}
use Rattle.check_link.specs.PlaceIndex.{address_in}
use Rattle.check_link.proofs.PlaceKeys.{no_address, place_added}
use Rattle.symbol_judge.proofs.piece_sizes.add_size.Goals as goal

pub returns-in_ok-insert : goal.returns-in_ok-insert
returns-in_ok-insert c =
    let piece = c.args.placed.now.piece in
    place_added c.args.index.now piece.object piece.section piece.header.sh_size c.insert.new.self c.in_ok-insert.ensures.updates
    (no_address (address_in c.args.index.now piece.object piece.section) (sym c.contains_key.ensures ∙ c.if-not-contains_key.true))

use Rattle.std.proofs.Common.{◌∙◌, sym}
use Rattle.check_link.specs.PlaceIndex.{address_in}
use Rattle.check_link.proofs.PlaceKeys.{no_address, place_added}
use Rattle.merge_judge.proofs.sections.add_section.Goals as goal

pub returns-in_ok-insert : goal.returns-in_ok-insert
returns-in_ok-insert c =
    let piece = c.args.piece.now in
    place_added c.args.index.now piece.object piece.section c.args.place c.insert.new.self c.in_ok-insert.ensures.updates
    (no_address (address_in c.args.index.now piece.object piece.section) (sym c.contains_key.ensures ∙ c.if-not-contains_key.true))

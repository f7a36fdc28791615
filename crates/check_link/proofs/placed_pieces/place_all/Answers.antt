use Rattle.std.proofs.Common.{◌≡◌, ◌∙◌, length, rules}
use Rattle.check_link.proofs.PlaceSteps.{front_of}
use Rattle.check_link.proofs.placed_pieces.place_all.Goals as goal

pub returns-clause-sections : goal.returns-clause-sections
returns-clause-sections c =
    let count : c.len-count.result ≡ length c.in_ok-placed.placed.items = search rules in
    front_of c.in_ok-placed.placed.items c.place_blocks.new.placed.items _ c.len-count.result count c.in_ok-place_blocks.ensures
    ∙ c.in_ok-placed.ensures

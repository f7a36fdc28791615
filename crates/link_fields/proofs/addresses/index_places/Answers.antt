use Rattle.std.proofs.Common.{◌∙◌}
use Rattle.check_link.specs.PlaceIndex.{address_in}
use Rattle.check_link.proofs.PlaceKeys.{place_step}
use Rattle.link_fields.proofs.addresses.index_places.Goals as goal

pub loop-q-preserved : goal.loop-q-preserved
loop-q-preserved c = λ object section.
    place_step (address_in c.loop-q.table object section) (address_in c.add_place.new.table object section) object section c.args.placed.now c.loop-q.q-index _
    c.loop-q-test.true (c.in_ok-add_place.ensures object section)
    ∙ c.loop-q.invariant object section

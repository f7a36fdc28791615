use Rattle.wrong_references.proofs.Sweeps.{swept_behind, swept_more}
use Rattle.wrong_references.proofs.overlaps.add_in_order.Goals as goal

pub add_two-requires : goal.add_two-requires
add_two-requires c =
    swept_behind c.args.object c.args.fields.now c.args.flaws.now.items c.loop-i.i c.loop-i.furthest _ c.loop-i.flaws.items c.requires c.loop-i.invariant c.loop-i-test.true

pub furthest_of-furthest-requires : goal.furthest_of-furthest-requires
furthest_of-furthest-requires c =
    swept_behind c.args.object c.args.fields.now c.args.flaws.now.items c.loop-i.i c.loop-i.furthest _ c.loop-i.flaws.items c.requires c.loop-i.invariant c.loop-i-test.true

pub loop-i-preserved : goal.loop-i-preserved
loop-i-preserved c =
    let one = c.furthest_of-furthest.ensures in
    swept_more c.args.object c.args.fields.now c.args.flaws.now.items c.loop-i.i c.loop-i.furthest c.furthest_of-furthest.result _ c.loop-i.flaws.items
    c.add_two.new.flaws.items c.requires c.loop-i.invariant c.loop-i-test.true c.in_ok-add_two.ensures one.one one.first one.second

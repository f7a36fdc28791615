use Rattle.std.proofs.Common.{arith, refl}
use Rattle.run_judge.proofs.Topping.{first_tops, next_tops_to, no_tops, tops_more, tops_of_all}
use Rattle.run_judge.proofs.clear.tops_of.Goals as goal

pub loop-s-init : goal.loop-s-init
loop-s-init c =
    first_tops c.args.stretches.now _ _ _ c.new-all.ensures.items c.in_ok-push.ensures.items (no_tops _ refl refl refl)

pub next_tops-tops-requires : goal.next_tops-tops-requires
next_tops-tops-requires c = c.loop-s.invariant.here.low

pub loop-s-preserved : goal.loop-s-preserved
loop-s-preserved c =
    next_tops_to c.args.stretches.now c.loop-s.s-index _ _ c.loop-s.tops c.next_tops-tops.result c.in_ok-push-2.ensures.items
    (tops_more c.args.stretches.now c.loop-s.s-index _ c.loop-s.tops c.next_tops-tops.result c.loop-s-test.true c.next_tops-tops.ensures.low
    c.next_tops-tops.ensures.told c.loop-s.invariant.here)
    c.loop-s.invariant

pub returns : goal.returns
returns c =
    tops_of_all c.args.stretches.now c.loop-s.s-index c.loop-s.all.items c.loop-s.tops (omega (arith, c.loop-s-test.false)) (omega arith) c.loop-s.invariant

use Rattle.std.proofs.Common.{◌+◌, List, drop, arith, subst, sym}
use Rattle.std.specs.Prelude.{◌↔◌, All}
use Rattle.run_judge.specs.Clear.{IsBesideGap, Misses}
use Rattle.run_judge.specs.declared.stretches.Stretch.{Stretch}
use Rattle.run_judge.proofs.Stretching.{noted_all, noted_more}
use Rattle.run_judge.proofs.stretches.add_made.Goals as goal

pub loop-thing-preserved : goal.loop-thing-preserved
loop-thing-preserved c = λ name from to some low.
    let P = Misses name from to in
    let R = IsBesideGap from to in
    let made = c.args.made.now in
    let Q = All P c.args.stretches.now.items × All R made in
    subst (λ (ss : List Stretch). (All P ss × All R (drop (c.loop-thing.thing-index + 1) made)) ↔ Q) (sym c.in_ok-push.ensures.items)
    (noted_more P R made c.loop-thing.stretches.items c.made_stretch.result Q c.loop-thing.thing-index _ c.loop-thing-test.true
    (c.made_stretch.ensures name from to some low) (c.loop-thing.invariant name from to some low))

pub returns : goal.returns
returns c = λ name from to some low.
    let P = Misses name from to in
    let R = IsBesideGap from to in
    noted_all P R c.args.made.now c.loop-thing.stretches.items (All P c.args.stretches.now.items × All R c.args.made.now) c.loop-thing.thing-index
    (omega (arith, c.loop-thing-test.false)) (c.loop-thing.invariant name from to some low)

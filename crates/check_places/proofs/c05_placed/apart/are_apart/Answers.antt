use Rattle.std.proofs.Common.{◌≡◌, true, false, refl}
use Rattle.std.specs.Prelude.{AllPairs}
use Rattle.elf_model.specs.Link.Placement.{AreApart}
use Rattle.check_places.proofs.Sweep.{sweep_ends, sweep_step, sweep_stops}
use Rattle.check_places.proofs.c05_placed.apart.are_apart.Goals as goal

pub loop-thing-preserved : goal.loop-thing-preserved
loop-thing-preserved c =
    sweep_step (AllPairs AreApart c.args.sorted.now) c.loop-thing.end c.in-Some.next c.args.sorted.now
    c.loop-thing.thing-index _ c.requires.rising c.loop-thing-test.true c.in-Some.ensures c.loop-thing.invariant

pub returns-in_default : goal.returns-in_default
returns-in_default c = (
  λ e. absurd (let f : false ≡ true = e in cc),
  λ h. absurd
      (sweep_stops (AllPairs AreApart c.args.sorted.now) c.loop-thing.end c.args.sorted.now c.loop-thing.thing-index _
      c.loop-thing-test.true c.in_default.ensures c.loop-thing.invariant h),
)

pub returns : goal.returns
returns c = (
  λ e. sweep_ends (AllPairs AreApart c.args.sorted.now) c.loop-thing.end c.args.sorted.now c.loop-thing.thing-index
      c.loop-thing-test.false c.loop-thing.invariant,
  λ h. refl,
)

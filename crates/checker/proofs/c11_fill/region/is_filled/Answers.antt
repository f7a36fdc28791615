use Rattle.std.proofs.Common.{◌≡◌, ℕ, ◌+◌, true, false, sym, subst, arith, drop}
use Rattle.check_places.specs.Sweeps.{FilledFrom, RegionFilled}
use Rattle.elf_model.proofs.Rests.{Left}
use Rattle.checker.proofs.Regions.{filled_end, filled_more, filled_stop}
use Rattle.checker.proofs.c11_fill.region.is_filled.Goals as goal

pub returns-then-not-is_gap : goal.returns-then-not-is_gap
returns-then-not-is_gap c = (
  λ e. absurd (let f : false ≡ true = e in cc),
  λ h. absurd
      (filled_stop
      (RegionFilled c.args.region.now.bytes.now c.args.region.now.start c.args.region.now.top c.args.region.now.fill c.args.sorted.now)
      c.args.region.now.bytes.now c.args.region.now.start c.args.region.now.top c.args.region.now.fill c.args.sorted.now c.requires.rising
      c.loop-thing.from c.loop-thing.thing-index _ c.loop-thing-test.true
      (λ gap. let f : false ≡ true = c.if-not-is_gap.ensures.1 gap in cc) c.loop-thing.invariant.rest h),
)

pub loop-thing-preserved : goal.loop-thing-preserved
loop-thing-preserved c = record {
  above = let m = c.max-from.ensures in let a = c.loop-thing.invariant.above in omega (arith, m, a);
  rest =
      subst
      (λ (from : ℕ).
      Left
      (RegionFilled c.args.region.now.bytes.now c.args.region.now.start c.args.region.now.top c.args.region.now.fill c.args.sorted.now)
      (FilledFrom c.args.region.now.bytes.now c.args.region.now.start c.args.region.now.top c.args.region.now.fill from
      (drop (c.loop-thing.thing-index + 1) c.args.sorted.now)))
      (sym c.max-from.ensures)
      (filled_more
      (RegionFilled c.args.region.now.bytes.now c.args.region.now.start c.args.region.now.top c.args.region.now.fill c.args.sorted.now)
      c.args.region.now.bytes.now c.args.region.now.start c.args.region.now.top c.args.region.now.fill c.args.sorted.now
      c.requires.rising c.loop-thing.from c.loop-thing.thing-index _ c.loop-thing-test.true
      (c.is_gap.ensures.0 c.if-not-is_gap.false) c.loop-thing.invariant.rest);
}

pub returns : goal.returns
returns c =
    filled_end
    (RegionFilled c.args.region.now.bytes.now c.args.region.now.start c.args.region.now.top c.args.region.now.fill c.args.sorted.now)
    c.args.region.now.bytes.now c.args.region.now.start c.args.region.now.top c.args.region.now.fill c.args.sorted.now
    c.requires.rising c.loop-thing.from c.loop-thing.thing-index _ c.loop-thing-test.false c.is_gap-2.ensures
    c.loop-thing.invariant.rest

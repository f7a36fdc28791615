use Rattle.std.proofs.Common.{◌≡◌, ◌-◌, true, false, refl}
use Rattle.checker.proofs.Regions.{fill_in_gap}
use Rattle.checker.proofs.c11_fill.region.is_gap.Goals as goal

pub returns-then-not-is_fill : goal.returns-then-not-is_fill
returns-then-not-is_fill c = (
  λ e. absurd (let f : false ≡ true = e in cc),
  λ gap. c.if-not-is_fill.ensures.1
      (fill_in_gap c.args.region.now.bytes.now c.args.region.now.start c.args.region.now.top c.args.region.now.fill c.args.from c.args.to
      c.min-end.result (c.args.from - c.args.region.now.start) (c.min-end.result - c.args.region.now.start) c.requires c.min-end.ensures c.if-end-from.false refl refl gap),
)

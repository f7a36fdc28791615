use Rattle.checker.proofs.Regions.{fill_of_part}
use Rattle.checker.proofs.c11_fill.region.is_fill.Goals as goal

pub returns : goal.returns
returns c =
    fill_of_part c.args.bytes.now _ _ c.args.low c.args.high c.min-end.result c.args.fill c.min-end.ensures c.if-end-low.false
    c.split_at.ensures.front c.split_at-2.ensures.back _ c.all_byte.ensures

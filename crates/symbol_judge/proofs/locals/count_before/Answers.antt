use Rattle.std.proofs.Common.{rules}
use Rattle.link_fields.proofs.PartitionPoints.{parted_below}
use Rattle.symbol_judge.specs.declared.locals.Local.{Local}
use Rattle.symbol_judge.proofs.locals.count_before.Goals as goal

pub returns-clause-before : goal.returns-clause-before
returns-clause-before c =
    (parted_below (λ (x : Local). x.key) c.args.table.now c.args.key _ c.requires c.partition_point.ensures.partitioned (λ a r q k. search rules)).0

pub returns-clause-from : goal.returns-clause-from
returns-clause-from c =
    (parted_below (λ (x : Local). x.key) c.args.table.now c.args.key _ c.requires c.partition_point.ensures.partitioned (λ a r q k. search rules)).1

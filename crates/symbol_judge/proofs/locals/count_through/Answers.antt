use Rattle.std.proofs.Common.{rules}
use Rattle.link_fields.proofs.PartitionPoints.{parted_through}
use Rattle.symbol_judge.specs.declared.locals.Local.{Local}
use Rattle.symbol_judge.proofs.locals.count_through.Goals as goal

pub returns-clause-through : goal.returns-clause-through
returns-clause-through c =
    (parted_through (λ (x : Local). x.key) c.args.table.now c.args.key _ c.requires c.partition_point.ensures.partitioned (λ a r q k. search rules)).0

pub returns-clause-behind : goal.returns-clause-behind
returns-clause-behind c =
    (parted_through (λ (x : Local). x.key) c.args.table.now c.args.key _ c.requires c.partition_point.ensures.partitioned (λ a r q k. search rules)).1

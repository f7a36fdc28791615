use Rattle.std.proofs.Common.{rules}
use Rattle.link_fields.proofs.PartitionPoints.{parted_through}
use Rattle.symbol_judge.specs.declared.stretches.Stretch.{Stretch}
use Rattle.symbol_judge.proofs.stretches.count_begun.Goals as goal

pub returns-clause-begun : goal.returns-clause-begun
returns-clause-begun c =
    (parted_through (λ (s : Stretch). s.from) c.args.sorted.now c.args.at _ c.requires c.partition_point.ensures.partitioned (λ a r q k. search rules)).0

pub returns-clause-behind : goal.returns-clause-behind
returns-clause-behind c =
    (parted_through (λ (s : Stretch). s.from) c.args.sorted.now c.args.at _ c.requires c.partition_point.ensures.partitioned (λ a r q k. search rules)).1

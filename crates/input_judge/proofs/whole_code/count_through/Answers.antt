use Rattle.std.proofs.Common.{rules}
use Rattle.link_fields.proofs.PartitionPoints.{parted_through}
use Rattle.input_judge.specs.declared.whole_code.Point.{Point}
use Rattle.input_judge.proofs.whole_code.count_through.Goals as goal

pub returns-clause-through : goal.returns-clause-through
returns-clause-through c =
    (parted_through (λ (x : Point). x.key) c.args.points.now c.args.key _ c.requires c.partition_point.ensures.partitioned (λ a r q k. search rules)).0

pub returns-clause-behind : goal.returns-clause-behind
returns-clause-behind c =
    (parted_through (λ (x : Point). x.key) c.args.points.now c.args.key _ c.requires c.partition_point.ensures.partitioned (λ a r q k. search rules)).1

use Rattle.std.proofs.Common.{rules}
use Rattle.link_fields.proofs.PartitionPoints.{parted_below}
use Rattle.input_judge.specs.declared.whole_code.Point.{Point}
use Rattle.input_judge.proofs.whole_code.count_before.Goals as goal

pub returns-clause-before : goal.returns-clause-before
returns-clause-before c =
    (parted_below (λ (x : Point). x.key) c.args.points.now c.args.key _ c.requires c.partition_point.ensures.partitioned (λ a r q k. search rules)).0

pub returns-clause-from : goal.returns-clause-from
returns-clause-from c =
    (parted_below (λ (x : Point). x.key) c.args.points.now c.args.key _ c.requires c.partition_point.ensures.partitioned (λ a r q k. search rules)).1

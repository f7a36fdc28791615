use Rattle.std.proofs.Common.{rules}
use Rattle.link_fields.specs.declared.object_fields.SectionField.{SectionField}
use Rattle.link_fields.proofs.PartitionPoints.{parted_below}
use Rattle.link_fields.proofs.object_fields.count_before.Goals as goal

pub returns-clause-before : goal.returns-clause-before
returns-clause-before c = (parted_below (λ (f : SectionField). f.section) c.args.row.now c.args.section _ c.requires c.partition_point.ensures.partitioned (λ a r q k. search rules)).0

pub returns-clause-from : goal.returns-clause-from
returns-clause-from c = (parted_below (λ (f : SectionField). f.section) c.args.row.now c.args.section _ c.requires c.partition_point.ensures.partitioned (λ a r q k. search rules)).1

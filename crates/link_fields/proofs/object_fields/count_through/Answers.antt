use Rattle.std.proofs.Common.{rules}
use Rattle.link_fields.specs.declared.object_fields.SectionField.{SectionField}
use Rattle.link_fields.proofs.PartitionPoints.{parted_through}
use Rattle.link_fields.proofs.object_fields.count_through.Goals as goal

pub returns-clause-through : goal.returns-clause-through
returns-clause-through c = (parted_through (λ (f : SectionField). f.section) c.args.row.now c.args.section _ c.requires c.partition_point.ensures.partitioned (λ a r q k. search rules)).0

pub returns-clause-behind : goal.returns-clause-behind
returns-clause-behind c = (parted_through (λ (f : SectionField). f.section) c.args.row.now c.args.section _ c.requires c.partition_point.ensures.partitioned (λ a r q k. search rules)).1

use Rattle.std.proofs.Common.{rules}
use Rattle.check_relocs.specs.declared.fields.Field.{Field}
use Rattle.check_relocs.proofs.PartitionPoints.{parted_below}
use Rattle.check_relocs.proofs.section_fields.count_before.Goals as goal

pub returns-clause-before : goal.returns-clause-before
returns-clause-before c = (parted_below (λ (f : Field). f.section) c.args.row.now c.args.section _ c.requires c.partition_point.ensures.partitioned (λ a r q k. search rules)).0

pub returns-clause-from : goal.returns-clause-from
returns-clause-from c = (parted_below (λ (f : Field). f.section) c.args.row.now c.args.section _ c.requires c.partition_point.ensures.partitioned (λ a r q k. search rules)).1

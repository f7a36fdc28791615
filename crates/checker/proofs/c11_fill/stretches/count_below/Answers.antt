use Rattle.std.proofs.Common.{rules}
use Rattle.elf_model.specs.declared.thing.Thing.{Thing}
use Rattle.check_relocs.proofs.PartitionPoints.{parted_below}
use Rattle.checker.proofs.c11_fill.stretches.count_below.Goals as goal

pub returns-clause-below : goal.returns-clause-below
returns-clause-below c = (parted_below (λ (t : Thing). t.at) c.args.sorted.now c.args.address _ c.requires c.partition_point.ensures.partitioned (λ a r q k. search rules)).0

pub returns-clause-above : goal.returns-clause-above
returns-clause-above c = (parted_below (λ (t : Thing). t.at) c.args.sorted.now c.args.address _ c.requires c.partition_point.ensures.partitioned (λ a r q k. search rules)).1

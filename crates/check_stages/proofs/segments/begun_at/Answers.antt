use Rattle.std.proofs.Common.{rules}
use Rattle.elf_model.specs.declared.records.ProgramHeader.{ProgramHeader}
use Rattle.check_relocs.proofs.PartitionPoints.{parted_through}
use Rattle.check_stages.proofs.segments.begun_at.Goals as goal

pub returns-clause-begun : goal.returns-clause-begun
returns-clause-begun c = (parted_through (λ (h : ProgramHeader). h.p_vaddr) c.args.segments.now c.args.at _ c.requires c.partition_point.ensures.partitioned (λ a r q k. search rules)).0

pub returns-clause-not_yet : goal.returns-clause-not_yet
returns-clause-not_yet c = (parted_through (λ (h : ProgramHeader). h.p_vaddr) c.args.segments.now c.args.at _ c.requires c.partition_point.ensures.partitioned (λ a r q k. search rules)).1

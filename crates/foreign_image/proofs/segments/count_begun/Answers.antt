use Rattle.std.proofs.Common.{arith, rules}
use Rattle.std.specs.Prelude.{nat_le}
use Rattle.std.proofs.lemmas.Bool.{leb-false, leb-true}
use Rattle.std.proofs.lemmas.List.Sorted.{IsPartitionPoint-from_clause, IsPartitionedBy-leb}
use Rattle.elf_model.specs.declared.records.ProgramHeader.{ProgramHeader}
use Rattle.foreign_image.proofs.segments.count_begun.Goals as goal

pub returns-clause-begun : goal.returns-clause-begun
returns-clause-begun c = λ k d below.
    let point =
    IsPartitionPoint-from_clause (λ (h : ProgramHeader). nat_le h.p_vaddr c.args.addr) c.args.segments.now _ c.partition_point.ensures.partitioned
    (IsPartitionedBy-leb (λ (h : ProgramHeader). h.p_vaddr) c.args.segments.now c.args.addr c.requires) (λ a r q k. search rules) in
    leb-true _ _ (point.0 k d (omega arith) below)

pub returns-clause-not_yet : goal.returns-clause-not_yet
returns-clause-not_yet c = λ k d from within.
    let point =
    IsPartitionPoint-from_clause (λ (h : ProgramHeader). nat_le h.p_vaddr c.args.addr) c.args.segments.now _ c.partition_point.ensures.partitioned
    (IsPartitionedBy-leb (λ (h : ProgramHeader). h.p_vaddr) c.args.segments.now c.args.addr c.requires) (λ a r q k. search rules) in
    leb-false _ _ (point.1 k d from within)

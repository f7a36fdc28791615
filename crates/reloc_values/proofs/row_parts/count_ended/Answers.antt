use Rattle.std.proofs.Common.{arith, rules}
use Rattle.std.specs.Prelude.{nat_le}
use Rattle.std.proofs.lemmas.Bool.{leb-true, leb-false}
use Rattle.std.proofs.lemmas.List.Sorted.{IsPartitionPoint-from_clause, IsPartitionedBy-leb}
use Rattle.reloc_values.specs.Patches.{end_of}
use Rattle.reloc_values.specs.declared.patch.Patch.{Patch}
use Rattle.reloc_values.proofs.row_parts.count_ended.Goals as goal

pub returns-clause-ended : goal.returns-clause-ended
returns-clause-ended c = λ k d below.
    let point =
    IsPartitionPoint-from_clause (λ (p : Patch). nat_le (end_of p) c.args.byte) c.args.row.now _ c.partition_point.ensures.partitioned
    (IsPartitionedBy-leb end_of c.args.row.now c.args.byte c.requires) (λ a r q k. search rules) in
    leb-true _ _ (point.0 k d (omega arith) below)

pub returns-clause-not_yet : goal.returns-clause-not_yet
returns-clause-not_yet c = λ k d from within.
    let point =
    IsPartitionPoint-from_clause (λ (p : Patch). nat_le (end_of p) c.args.byte) c.args.row.now _ c.partition_point.ensures.partitioned
    (IsPartitionedBy-leb end_of c.args.row.now c.args.byte c.requires) (λ a r q k. search rules) in
    leb-false _ _ (point.1 k d from within)

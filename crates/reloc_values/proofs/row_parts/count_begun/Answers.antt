use Rattle.std.proofs.Common.{◌+◌, arith, rules}
use Rattle.std.specs.Prelude.{nat_lt}
use Rattle.std.proofs.lemmas.Bool.{ltb-true, ltb-false}
use Rattle.std.proofs.lemmas.List.Sorted.{IsPartitionPoint-from_clause, IsPartitionedBy-ltb}
use Rattle.reloc_values.specs.Patches.{begin_of}
use Rattle.reloc_values.specs.declared.patch.Patch.{Patch}
use Rattle.reloc_values.proofs.row_parts.count_begun.Goals as goal

pub returns-clause-begun : goal.returns-clause-begun
returns-clause-begun c = λ k d below.
    let point =
    IsPartitionPoint-from_clause (λ (p : Patch). nat_lt (begin_of p) (c.args.from + c.args.count)) c.args.row.now _ c.partition_point.ensures.partitioned
    (IsPartitionedBy-ltb begin_of c.args.row.now (c.args.from + c.args.count) c.requires) (λ a r q k. search rules) in
    ltb-true _ _ (point.0 k d (omega arith) below)

pub returns-clause-not_yet : goal.returns-clause-not_yet
returns-clause-not_yet c = λ k d from within.
    let point =
    IsPartitionPoint-from_clause (λ (p : Patch). nat_lt (begin_of p) (c.args.from + c.args.count)) c.args.row.now _ c.partition_point.ensures.partitioned
    (IsPartitionedBy-ltb begin_of c.args.row.now (c.args.from + c.args.count) c.requires) (λ a r q k. search rules) in
    ltb-false _ _ (point.1 k d from within)

use Rattle.std.proofs.Common.{◌+◌, arith, rules}
use Rattle.std.specs.Prelude.{nat_le}
use Rattle.std.proofs.lemmas.Bool.{leb-true, leb-false}
use Rattle.std.proofs.lemmas.List.Sorted.{IsPartitionPoint-from_clause, IsPartitionedBy-leb}
use Rattle.elf_model.specs.declared.thing.Thing.{Thing}
use Rattle.checker.proofs.c11_fill.stretches.count_ended.Goals as goal

pub returns-clause-ended : goal.returns-clause-ended
returns-clause-ended c = λ k d below.
    let point =
    IsPartitionPoint-from_clause (λ (t : Thing). nat_le (t.at + t.size) c.args.address) c.args.sorted.now _ c.partition_point.ensures.partitioned
    (IsPartitionedBy-leb (λ (t : Thing). t.at + t.size) c.args.sorted.now c.args.address c.requires) (λ a r q k. search rules) in
    leb-true _ _ (point.0 k d (omega arith) below)

pub returns-clause-not_yet : goal.returns-clause-not_yet
returns-clause-not_yet c = λ k d from within.
    let point =
    IsPartitionPoint-from_clause (λ (t : Thing). nat_le (t.at + t.size) c.args.address) c.args.sorted.now _ c.partition_point.ensures.partitioned
    (IsPartitionedBy-leb (λ (t : Thing). t.at + t.size) c.args.sorted.now c.args.address c.requires) (λ a r q k. search rules) in
    leb-false _ _ (point.1 k d from within)

use Rattle.std.proofs.Common.{arith, rules}
use Rattle.std.specs.Prelude.{nat_lt}
use Rattle.std.proofs.lemmas.Bool.{ltb-false, ltb-true}
use Rattle.std.proofs.lemmas.List.Sorted.{IsPartitionPoint-from_clause, IsPartitionedBy-ltb}
use Rattle.run_judge.specs.declared.stretches.Stretch.{Stretch}
use Rattle.run_judge.proofs.clear.count_before.Goals as goal

pub returns-clause-before : goal.returns-clause-before
returns-clause-before c = λ k d below.
    let point =
    IsPartitionPoint-from_clause (λ (s : Stretch). nat_lt s.from c.args.to) c.args.stretches.now _ c.partition_point.ensures.partitioned
    (IsPartitionedBy-ltb (λ (s : Stretch). s.from) c.args.stretches.now c.args.to c.requires) (λ a r q k. search rules) in
    ltb-true _ _ (point.0 k d (omega arith) below)

pub returns-clause-behind : goal.returns-clause-behind
returns-clause-behind c = λ k d from within.
    let point =
    IsPartitionPoint-from_clause (λ (s : Stretch). nat_lt s.from c.args.to) c.args.stretches.now _ c.partition_point.ensures.partitioned
    (IsPartitionedBy-ltb (λ (s : Stretch). s.from) c.args.stretches.now c.args.to c.requires) (λ a r q k. search rules) in
    ltb-false _ _ (point.1 k d from within)

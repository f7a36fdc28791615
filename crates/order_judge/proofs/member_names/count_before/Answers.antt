use Rattle.std.proofs.Common.{arith, rules}
use Rattle.std.specs.Prelude.{nat_lt}
use Rattle.std.proofs.lemmas.Bool.{ltb-false, ltb-true}
use Rattle.std.proofs.lemmas.List.Sorted.{IsPartitionPoint-from_clause, IsPartitionedBy-ltb}
use Rattle.order_judge.specs.declared.member_names.MemberName.{MemberName}
use Rattle.order_judge.proofs.member_names.count_before.Goals as goal

pub returns-clause-before : goal.returns-clause-before
returns-clause-before c = λ k d below.
    let point =
    IsPartitionPoint-from_clause (λ (n : MemberName). nat_lt n.offset c.args.offset) c.args.names.now _ c.partition_point.ensures.partitioned
    (IsPartitionedBy-ltb (λ (n : MemberName). n.offset) c.args.names.now c.args.offset c.requires) (λ a r q k. search rules) in
    ltb-true _ _ (point.0 k d (omega arith) below)

pub returns-clause-from : goal.returns-clause-from
returns-clause-from c = λ k d from within.
    let point =
    IsPartitionPoint-from_clause (λ (n : MemberName). nat_lt n.offset c.args.offset) c.args.names.now _ c.partition_point.ensures.partitioned
    (IsPartitionedBy-ltb (λ (n : MemberName). n.offset) c.args.names.now c.args.offset c.requires) (λ a r q k. search rules) in
    ltb-false _ _ (point.1 k d from within)

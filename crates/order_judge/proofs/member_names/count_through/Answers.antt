use Rattle.std.proofs.Common.{arith, rules}
use Rattle.std.specs.Prelude.{nat_le}
use Rattle.std.proofs.lemmas.Bool.{leb-false, leb-true}
use Rattle.std.proofs.lemmas.List.Sorted.{IsPartitionPoint-from_clause, IsPartitionedBy-leb}
use Rattle.order_judge.specs.declared.member_names.MemberName.{MemberName}
use Rattle.order_judge.proofs.member_names.count_through.Goals as goal

pub returns-clause-through : goal.returns-clause-through
returns-clause-through c = λ k d below.
    let point =
    IsPartitionPoint-from_clause (λ (n : MemberName). nat_le n.offset c.args.offset) c.args.names.now _ c.partition_point.ensures.partitioned
    (IsPartitionedBy-leb (λ (n : MemberName). n.offset) c.args.names.now c.args.offset c.requires) (λ a r q k. search rules) in
    leb-true _ _ (point.0 k d (omega arith) below)

pub returns-clause-behind : goal.returns-clause-behind
returns-clause-behind c = λ k d from within.
    let point =
    IsPartitionPoint-from_clause (λ (n : MemberName). nat_le n.offset c.args.offset) c.args.names.now _ c.partition_point.ensures.partitioned
    (IsPartitionedBy-leb (λ (n : MemberName). n.offset) c.args.names.now c.args.offset c.requires) (λ a r q k. search rules) in
    leb-false _ _ (point.1 k d from within)

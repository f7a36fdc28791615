use Rattle.std.proofs.Common.{arith, rules}
use Rattle.std.specs.Prelude.{nat_le}
use Rattle.std.proofs.lemmas.Bool.{leb-false, leb-true}
use Rattle.std.proofs.lemmas.List.Sorted.{IsPartitionPoint-from_clause, IsPartitionedBy-leb}
use Rattle.memory_judge.specs.declared.spans.Span.{Span}
use Rattle.memory_judge.proofs.spans.count_ended.Goals as goal

pub returns-clause-ended : goal.returns-clause-ended
returns-clause-ended c = λ k d below.
    let point =
    IsPartitionPoint-from_clause (λ (s : Span). nat_le s.to c.args.at) c.args.spans.now _ c.partition_point.ensures.partitioned
    (IsPartitionedBy-leb (λ (s : Span). s.to) c.args.spans.now c.args.at c.requires) (λ a r q k. search rules) in
    leb-true _ _ (point.0 k d (omega arith) below)

pub returns-clause-not_yet : goal.returns-clause-not_yet
returns-clause-not_yet c = λ k d from within.
    let point =
    IsPartitionPoint-from_clause (λ (s : Span). nat_le s.to c.args.at) c.args.spans.now _ c.partition_point.ensures.partitioned
    (IsPartitionedBy-leb (λ (s : Span). s.to) c.args.spans.now c.args.at c.requires) (λ a r q k. search rules) in
    leb-false _ _ (point.1 k d from within)

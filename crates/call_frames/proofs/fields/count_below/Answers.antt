use Rattle.std.proofs.Common.{◌<◌, ◌≤◌, arith, rules}
use Rattle.std.specs.Prelude.{nat_lt}
use Rattle.std.proofs.lemmas.Bool.{ltb-false, ltb-true}
use Rattle.std.proofs.lemmas.List.Sorted.{IsPartitionPoint-from_clause, IsPartitionedBy-ltb}
use Rattle.memory_judge.specs.declared.rests.FieldSpan.{FieldSpan}
use Rattle.call_frames.proofs.AlikeLaws.{all_below, all_behind}
use Rattle.call_frames.proofs.fields.count_below.Goals as goal

pub returns-clause-below : goal.returns-clause-below
returns-clause-below c =
    let point =
    IsPartitionPoint-from_clause (λ (s : FieldSpan). nat_lt s.at c.args.at) c.args.spans.now _ c.partition_point.ensures.partitioned
    (IsPartitionedBy-ltb (λ (s : FieldSpan). s.at) c.args.spans.now c.args.at c.requires) (λ a r q k. search rules) in
    all_below (λ (s : FieldSpan). s.at < c.args.at) c.args.spans.now c.partition_point.result (λ k d below. ltb-true _ _ (point.0 k d (omega arith) below))

pub returns-clause-behind : goal.returns-clause-behind
returns-clause-behind c =
    let point =
    IsPartitionPoint-from_clause (λ (s : FieldSpan). nat_lt s.at c.args.at) c.args.spans.now _ c.partition_point.ensures.partitioned
    (IsPartitionedBy-ltb (λ (s : FieldSpan). s.at) c.args.spans.now c.args.at c.requires) (λ a r q k. search rules) in
    all_behind (λ (s : FieldSpan). c.args.at ≤ s.at) c.args.spans.now c.partition_point.result (λ k d from within. ltb-false _ _ (point.1 k d from within))

use Rattle.std.proofs.Common.{arith, rules}
use Rattle.std.specs.Prelude.{nat_le}
use Rattle.std.proofs.lemmas.Bool.{leb-false, leb-true}
use Rattle.std.proofs.lemmas.List.Sorted.{IsPartitionPoint-from_clause, IsPartitionedBy-leb}
use Rattle.judge_model.specs.declared.frame_record.FrameRow.{FrameRow}
use Rattle.frame_table.proofs.order.count_not_behind.Goals as goal

pub returns-clause-before : goal.returns-clause-before
returns-clause-before c = λ k d below.
    let point =
    IsPartitionPoint-from_clause (λ (r : FrameRow). nat_le r.function c.args.address) c.args.rows.now _ c.partition_point.ensures.partitioned
    (IsPartitionedBy-leb (λ (r : FrameRow). r.function) c.args.rows.now c.args.address c.requires) (λ a r q k. search rules) in
    leb-true _ _ (point.0 k d (omega arith) below)

pub returns-clause-behind : goal.returns-clause-behind
returns-clause-behind c = λ k d from within.
    let point =
    IsPartitionPoint-from_clause (λ (r : FrameRow). nat_le r.function c.args.address) c.args.rows.now _ c.partition_point.ensures.partitioned
    (IsPartitionedBy-leb (λ (r : FrameRow). r.function) c.args.rows.now c.args.address c.requires) (λ a r q k. search rules) in
    leb-false _ _ (point.1 k d from within)

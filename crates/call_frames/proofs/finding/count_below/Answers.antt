use Rattle.std.proofs.Common.{arith, rules}
use Rattle.std.specs.Prelude.{nat_lt}
use Rattle.std.proofs.lemmas.Bool.{ltb-false, ltb-true}
use Rattle.std.proofs.lemmas.List.Sorted.{IsPartitionPoint-from_clause, IsPartitionedBy-ltb}
use Rattle.judge_model.specs.declared.frame_record.FrameRecord.{FrameRecord}
use Rattle.call_frames.proofs.finding.count_below.Goals as goal

pub returns-clause-below : goal.returns-clause-below
returns-clause-below c = λ k d below.
    let point =
    IsPartitionPoint-from_clause (λ (r : FrameRecord). nat_lt r.offset c.args.offset) c.args.records.now _ c.partition_point.ensures.partitioned
    (IsPartitionedBy-ltb (λ (r : FrameRecord). r.offset) c.args.records.now c.args.offset c.requires) (λ a r q k. search rules) in
    ltb-true _ _ (point.0 k d (omega arith) below)

pub returns-clause-not_below : goal.returns-clause-not_below
returns-clause-not_below c = λ k d from within.
    let point =
    IsPartitionPoint-from_clause (λ (r : FrameRecord). nat_lt r.offset c.args.offset) c.args.records.now _ c.partition_point.ensures.partitioned
    (IsPartitionedBy-ltb (λ (r : FrameRecord). r.offset) c.args.records.now c.args.offset c.requires) (λ a r q k. search rules) in
    ltb-false _ _ (point.1 k d from within)

use Rattle.std.proofs.Common.{arith, rules}
use Rattle.std.proofs.lemmas.Bool.{leb-false, leb-true}
use Rattle.std.proofs.lemmas.List.Sorted.{IsPartitionPoint-from_clause}
use Rattle.merge_judge.specs.Areas.{ends_by}
use Rattle.merge_judge.proofs.AreaLaws.{parted}
use Rattle.merge_judge.proofs.areas.count_ended.Goals as goal

pub returns-clause-ended : goal.returns-clause-ended
returns-clause-ended c = λ k d below.
    let point =
    IsPartitionPoint-from_clause (ends_by c.args.at) c.args.areas.now _ c.partition_point.ensures.partitioned
    (parted c.args.at c.args.areas.now c.requires) (λ a r q k. search rules) in
    leb-true _ _ (point.0 k d (omega arith) below)

pub returns-clause-not_yet : goal.returns-clause-not_yet
returns-clause-not_yet c = λ k d from within.
    let point =
    IsPartitionPoint-from_clause (ends_by c.args.at) c.args.areas.now _ c.partition_point.ensures.partitioned
    (parted c.args.at c.args.areas.now c.requires) (λ a r q k. search rules) in
    leb-false _ _ (point.1 k d from within)

use Rattle.std.proofs.Common.{arith, rules}
use Rattle.std.proofs.lemmas.List.Sorted.{IsPartitionPoint-from_clause}
use Rattle.link_fields.specs.MergedLines.{ends_before}
use Rattle.link_fields.proofs.MergedLaws.{parted}
use Rattle.link_fields.proofs.merged_lines.count_before.Goals as goal

pub returns-clause-before : goal.returns-clause-before
returns-clause-before c = λ k d below.
    let point =
    IsPartitionPoint-from_clause (ends_before c.args.object c.args.section c.args.offset) c.args.lines.now _ c.partition_point.ensures.partitioned
    (parted c.args.object c.args.section c.args.offset c.args.lines.now c.requires) (λ a r q k. search rules) in
    point.0 k d (omega arith) below

pub returns-clause-behind : goal.returns-clause-behind
returns-clause-behind c = λ k d from within.
    let point =
    IsPartitionPoint-from_clause (ends_before c.args.object c.args.section c.args.offset) c.args.lines.now _ c.partition_point.ensures.partitioned
    (parted c.args.object c.args.section c.args.offset c.args.lines.now c.requires) (λ a r q k. search rules) in
    point.1 k d from within

use Rattle.std.proofs.Common.{◌∙◌}
use Rattle.linkmap.proofs.NameLaws.{IsRun, printed_more, printed_end, printed_plain}
use Rattle.linkmap.proofs.names.put_escaped.Goals as goal

pub returns-in_default : goal.returns-in_default
returns-in_default c =
    let r : IsRun c.runs.rest.now c.split_plain.result.0.now c.split_plain.result.1.now = record { front = c.split_plain.ensures.front; back = c.split_plain.ensures.back } in
    c.in_ok-extend_from_slice.ensures.items ∙ printed_end c.runs.out.items c.runs.rest.now _ _ r c.in_default.ensures.cases ∙ c.runs.invariant

pub put_escape-requires : goal.put_escape-requires
put_escape-requires c =
    let r : IsRun c.runs.rest.now c.split_plain.result.0.now c.split_plain.result.1.now = record { front = c.split_plain.ensures.front; back = c.split_plain.ensures.back } in
    printed_plain c.runs.rest.now _ _ c.in-Some.after.now c.in-Some.byte.now r c.in-Some.ensures.cases.0

pub runs-preserved : goal.runs-preserved
runs-preserved c =
    let r : IsRun c.runs.rest.now c.split_plain.result.0.now c.split_plain.result.1.now = record { front = c.split_plain.ensures.front; back = c.split_plain.ensures.back } in
    let more = printed_more c.runs.out.items c.runs.rest.now _ _ c.in-Some.after.now c.in-Some.byte.now r c.in-Some.ensures.cases.0 in
    let first = c.in_ok-extend_from_slice.ensures.items in
    let second = c.in_ok-put_escape.ensures in
    cc

use Rattle.std.proofs.Common.{sym, ◌∙◌}
use Rattle.linkmap.proofs.NameLaws.{IsRun, turn_escape, turn_end, turn_none, turn_shorter}
use Rattle.linkmap.proofs.names.read_spelled.Goals as goal

pub returns-in_default-strip : goal.returns-in_default-strip
returns-in_default-strip c =
    let r : IsRun c.runs.rest.now c.split_plain.result.0.now c.split_plain.result.1.now = record { front = c.split_plain.ensures.front; back = c.split_plain.ensures.back } in
    sym c.runs.invariant ∙ turn_none c.runs.name.items c.runs.rest.now _ _ r (sym c.in_default.ensures) (sym c.in_default-strip.ensures)

pub returns-in_default : goal.returns-in_default
returns-in_default c =
    let r : IsRun c.runs.rest.now c.split_plain.result.0.now c.split_plain.result.1.now = record { front = c.split_plain.ensures.front; back = c.split_plain.ensures.back } in
    let items = c.in_ok-extend_from_slice.ensures.items in
    let invariant = c.runs.invariant in
    let e = turn_end c.runs.name.items c.runs.rest.now _ _ c.in-Some-strip.left.now r (sym c.in_default.ensures) (sym c.in-Some-strip.ensures) in
    cc

pub runs-smaller : goal.runs-smaller
runs-smaller c =
    let r : IsRun c.runs.rest.now c.split_plain.result.0.now c.split_plain.result.1.now = record { front = c.split_plain.ensures.front; back = c.split_plain.ensures.back } in
    turn_shorter c.runs.rest.now _ _ c.in-Some.left.now c.in-Some.byte r (sym c.in-Some.ensures)

pub runs-preserved : goal.runs-preserved
runs-preserved c =
    let r : IsRun c.runs.rest.now c.split_plain.result.0.now c.split_plain.result.1.now = record { front = c.split_plain.ensures.front; back = c.split_plain.ensures.back } in
    let e = turn_escape c.runs.name.items c.runs.rest.now _ _ c.in-Some.left.now c.in-Some.byte r (sym c.in-Some.ensures) in
    let first = c.in_ok-extend_from_slice.ensures.items in
    let second = c.in_ok-extend_from_slice-2.ensures.items in
    let invariant = c.runs.invariant in
    cc

use Rattle.std.proofs.Common.{◌<◌, arith, subst, sym}
use Rattle.memory_judge.specs.declared.spans.Span.{Span}
use Rattle.memory_judge.proofs.SpanLaws.{apart_at, rises_by_end}
use Rattle.memory_judge.proofs.slots.is_apart_from_spans.Goals as goal

pub count_ended-requires : goal.count_ended-requires
count_ended-requires c = rises_by_end c.args.spans.now c.requires.some c.requires.rising

pub returns-in-Some : goal.returns-in-Some
returns-in-Some c =
    let at = c.args.at in
    let i = c.count_ended.result in
    let next = c.in-Some.next.now in
    let there = c.in-Some.ensures.lookup.3 in
    apart_at at i c.args.spans.now c.requires.some c.requires.rising c.count_ended.ensures.ended next c.begins_behind.result there.0 there.1
    (subst (λ (s : Span). at < s.to) (sym (there.1 next)) (c.count_ended.ensures.not_yet i next (omega arith) there.0)) c.begins_behind.ensures

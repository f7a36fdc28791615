use Rattle.std.proofs.Common.{◌<◌, arith, subst, sym}
use Rattle.memory_judge.specs.declared.spans.Span.{Span}
use Rattle.memory_judge.proofs.SpanLaws.{has_at, has_none, rises_by_end}
use Rattle.memory_judge.proofs.spans.has_address.Goals as goal

pub count_ended-requires : goal.count_ended-requires
count_ended-requires c = rises_by_end c.args.spans.now c.requires.some c.requires.rising

pub returns-in-Some : goal.returns-in-Some
returns-in-Some c =
    let at = c.args.at in
    let i = c.count_ended.result in
    let next = c.in-Some.next.now in
    let there = c.in-Some.ensures.lookup.3 in
    has_at at i c.args.spans.now c.requires.rising c.count_ended.ensures.ended next c.begins_by.result there.0 there.1
    (subst (λ (s : Span). at < s.to) (sym (there.1 next)) (c.count_ended.ensures.not_yet i next (omega arith) there.0)) c.begins_by.ensures

pub returns-in-None : goal.returns-in-None
returns-in-None c = has_none c.args.at c.count_ended.result c.args.spans.now c.count_ended.ensures.ended (omega (arith, c.in-None.ensures.lookup.3))

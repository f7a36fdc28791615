use Rattle.std.proofs.Common.{◌≡◌, List, subst, sym}
use Rattle.std.specs.Global.{Vec}
use Rattle.std.specs.Prelude.{IsPermutation}
use Rattle.std.specs.List.Sorted.{IsNonDecreasingBy}
use Rattle.std.proofs.lemmas.Result.{IfOk-weaker}
use Rattle.elf_model.specs.declared.thing.Thing.{Thing}
use Rattle.memory_judge.specs.Spans.{AreSpansOf, merged}
use Rattle.memory_judge.specs.declared.spans.Span.{Span}
use Rattle.memory_judge.proofs.SpanLaws.{are_spans}
use Rattle.memory_judge.proofs.spans.spans_of.Goals as goal

pub returns : goal.returns
returns c =
    let things = c.args.things.now in
    let sorted = c.deref.result.now in
    let same = subst (λ (ts : List Thing). IsPermutation things ts) (sym c.deref.ensures.value) c.in_ok-sorted.ensures.same in
    let rising = subst (λ (ts : List Thing). IsNonDecreasingBy (λ t. t.at) ts) (sym c.deref.ensures.value) c.in_ok-sorted.ensures.rising in
    IfOk-weaker c.merged.result (λ (v : Vec Span). v.items ≡ merged 0 0 sorted) (λ v. AreSpansOf things v.items)
    (λ v is. are_spans things sorted v.items same rising is) c.merged.ensures

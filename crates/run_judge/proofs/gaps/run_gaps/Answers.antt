use Rattle.std.proofs.Common.{◌∙◌, ℕ, ◌⊎◌, List, subst, sym}
use Rattle.std.specs.Global.{Vec}
use Rattle.std.specs.Prelude.{◌↔◌, Any}
use Rattle.std.proofs.lemmas.Result.{IfOk-weaker}
use Rattle.elf_model.specs.Link.Placement.{Covers}
use Rattle.elf_model.specs.declared.thing.Thing.{Thing}
use Rattle.judge_model.specs.Fill.{IsRunThrough}
use Rattle.memory_judge.specs.Spans.{AreSpansOf, IsInSpan}
use Rattle.memory_judge.specs.declared.spans.Span.{Span}
use Rattle.run_judge.specs.Clear.{IsInGap}
use Rattle.run_judge.proofs.GapLaws.{code_gaps_told, gaps_alone}
use Rattle.run_judge.proofs.gaps.run_gaps.Goals as goal

pub returns-clause-gaps : goal.returns-clause-gaps
returns-clause-gaps c = λ l are.
    let code = c.deref.result.now in
    let gaps = c.deref-2.result.now in
    let told : (a : ℕ) → Any (λ t. Covers t a) gaps ↔ Any (IsInGap a) code =
    (λ a.
    gaps_alone gaps c.new-gaps.result.items code a c.new-gaps.ensures.items
    (subst
    (λ (ts : List Thing). Any (λ t. Covers t a) ts ↔ (Any (λ t. Covers t a) c.new-gaps.result.items ⊎ Any (IsInGap a) code))
    (sym c.deref-2.ensures.value) (c.in_ok-add_gaps.ensures a))) in
    IfOk-weaker c.spans_of.result (λ (v : Vec Span). AreSpansOf gaps v.items)
    (λ v. (a : ℕ) → Any (IsInSpan a) v.items ↔ IsRunThrough l a)
    (λ v own. code_gaps_told l c.args.pairs.now code gaps v.items are (c.deref.ensures.value ∙ c.in_ok-code.ensures) c.are_low.ensures told own)
    c.spans_of.ensures

use Rattle.std.proofs.Common.{◌+◌, ◌∙◌, List, ap, drop, get_or, subst, sym, arith}
use Rattle.std.specs.Prelude.{max, min}
use Rattle.std.specs.List.Sorted.{IsNonDecreasingBy}
use Rattle.std.proofs.lemmas.Bool.{false≢true}
use Rattle.std.proofs.lemmas.List.{drop_all}
use Rattle.std.proofs.lemmas.List.Sorted.{IsNonDecreasingBy-drop}
use Rattle.elf_model.proofs.Rests.{Left, rest_at}
use Rattle.call_frames.proofs.AlikeLaws.{front_equal, rest_end, rest_more}
use Rattle.call_frames.specs.Alike.{IsRestAt}
use Rattle.memory_judge.specs.Rests.{AreEqual}
use Rattle.memory_judge.specs.declared.rests.FieldSpan.{FieldSpan}
use Rattle.call_frames.proofs.alike.are_equal_beside.Goals as goal

null_span : FieldSpan
null_span = record { at = 0; width = 0 }

pub returns-then-not-are_equal : goal.returns-then-not-are_equal
unfolding null_span
returns-then-not-are_equal c =
    let ss = c.args.spans.now in
    let i = c.loop-span.span-index in
    let held = c.args.held.now in
    let bytes = c.args.bytes.now in
    let n = c.args.size in
    let Q = IsRestAt held bytes ss c.args.start 8 n in
    let s = get_or ss i null_span in
    let parts = rest_at ss i null_span c.loop-span-test.true in
    let rising =
    subst (λ (ts : List FieldSpan). IsNonDecreasingBy (λ t. t.at) ts) parts (IsNonDecreasingBy-drop (λ t. t.at) i ss c.requires.rising) in
    let claim = subst (λ (ts : List FieldSpan). Left Q (IsRestAt held bytes ts c.args.start c.loop-span.from n)) parts c.loop-span.invariant in (
      λ e. absurd (false≢true e),
      λ q. absurd
          (false≢true
          (sym c.if-not-are_equal.true
          ∙ c.are_equal.ensures.1
          (subst (AreEqual held bytes c.loop-span.from) (sym (c.max-to.ensures ∙ ap (λ x. max x c.loop-span.from) (c.min.ensures ∙ ap (λ x. min x n) c.saturating_sub.ensures)))
          (front_equal Q held bytes s (drop (i + 1) ss) c.args.start c.loop-span.from n c.requires.fits rising claim q)))),
    )

pub loop-span-preserved : goal.loop-span-preserved
unfolding null_span
loop-span-preserved c =
    let ss = c.args.spans.now in
    let i = c.loop-span.span-index in
    let held = c.args.held.now in
    let bytes = c.args.bytes.now in
    let n = c.args.size in
    let Q = IsRestAt held bytes ss c.args.start 8 n in
    let s = get_or ss i null_span in
    let parts = rest_at ss i null_span c.loop-span-test.true in
    let rising =
    subst (λ (ts : List FieldSpan). IsNonDecreasingBy (λ t. t.at) ts) parts (IsNonDecreasingBy-drop (λ t. t.at) i ss c.requires.rising) in
    let claim = subst (λ (ts : List FieldSpan). Left Q (IsRestAt held bytes ts c.args.start c.loop-span.from n)) parts c.loop-span.invariant in
    let front =
    subst (AreEqual held bytes c.loop-span.from) (c.max-to.ensures ∙ ap (λ x. max x c.loop-span.from) (c.min.ensures ∙ ap (λ x. min x n) c.saturating_sub.ensures))
    (c.are_equal.ensures.0 c.if-not-are_equal.false) in
    subst (λ x. Left Q (IsRestAt held bytes (drop (i + 1) ss) c.args.start x n)) (sym (c.max-from.ensures ∙ ap (λ x. max x c.loop-span.from) c.end_behind.ensures))
    (rest_more Q held bytes s (drop (i + 1) ss) c.args.start c.loop-span.from n c.requires.fits rising claim front)

pub returns : goal.returns
returns c =
    let ss = c.args.spans.now in
    let i = c.loop-span.span-index in
    let held = c.args.held.now in
    let bytes = c.args.bytes.now in
    let n = c.args.size in
    let Q = IsRestAt held bytes ss c.args.start 8 n in
    let behind = c.loop-span-test.false in
    let both = rest_end Q held bytes (drop i ss) c.args.start c.loop-span.from n (drop_all i ss (omega (arith, behind))) c.loop-span.invariant in (
      λ e. both.0 (subst (AreEqual held bytes c.loop-span.from) c.max.ensures (c.are_equal-2.ensures.0 e)),
      λ q. c.are_equal-2.ensures.1 (subst (AreEqual held bytes c.loop-span.from) (sym c.max.ensures) (both.1 q)),
    )

use Rattle.std.proofs.Common.{◌∙◌, List, subst, sym}
use Rattle.std.proofs.lemmas.Bool.{false≢true}
use Rattle.elf_model.specs.Image.MapText.{Ascends}
use Rattle.judge_model.specs.Certificates.{MergedBefore, StretchBefore}
use Rattle.judge_model.specs.declared.certificate.MergedLine.{MergedLine}
use Rattle.judge_model.specs.declared.certificate.StretchLine.{StretchLine}
use Rattle.place_judge.proofs.order.are_stretches_in_order.Goals as goal

pub returns-then-not-are_stretches_rising : goal.returns-then-not-are_stretches_rising
returns-then-not-are_stretches_rising c = (
  λ t. absurd (false≢true t),
  λ r.
      sym c.if-not-are_stretches_rising.true
      ∙ c.are_stretches_rising.ensures.1 (subst (λ (xs : List StretchLine). Ascends StretchBefore xs) (sym c.deref.ensures.value) r.notes),
)

pub returns-then-not-are_stretches_rising-2 : goal.returns-then-not-are_stretches_rising-2
returns-then-not-are_stretches_rising-2 c = (
  λ t. absurd (false≢true t),
  λ r.
      sym c.if-not-are_stretches_rising-2.true
      ∙ c.are_stretches_rising-2.ensures.1 (subst (λ (xs : List StretchLine). Ascends StretchBefore xs) (sym c.deref-2.ensures.value) r.areas),
)

pub returns-then-not-are_merged_rising : goal.returns-then-not-are_merged_rising
returns-then-not-are_merged_rising c = (
  λ t. absurd (false≢true t),
  λ r.
      sym c.if-not-are_merged_rising.true
      ∙ c.are_merged_rising.ensures.1 (subst (λ (xs : List MergedLine). Ascends MergedBefore xs) (sym c.deref-3.ensures.value) r.merged),
)

pub returns : goal.returns
returns c = (
  λ t. record {
    notes = subst (λ (xs : List StretchLine). Ascends StretchBefore xs) c.deref.ensures.value (c.are_stretches_rising.ensures.0 c.if-not-are_stretches_rising.false);
    areas =
        subst (λ (xs : List StretchLine). Ascends StretchBefore xs) c.deref-2.ensures.value (c.are_stretches_rising-2.ensures.0 c.if-not-are_stretches_rising-2.false);
    merged =
        subst (λ (xs : List MergedLine). Ascends MergedBefore xs) c.deref-3.ensures.value (c.are_merged_rising.ensures.0 c.if-not-are_merged_rising.false);
    frames = subst (λ (xs : List MergedLine). Ascends MergedBefore xs) c.deref-4.ensures.value (c.are_merged_rising-2.ensures.0 t);
  },
  λ r. c.are_merged_rising-2.ensures.1 (subst (λ (xs : List MergedLine). Ascends MergedBefore xs) (sym c.deref-4.ensures.value) r.frames),
)

use Rattle.std.proofs.Common.{◌∙◌, ap, refl, sym, subst}
use Rattle.std.proofs.lemmas.Bool.{false≢true}
use Rattle.judge_model.specs.Links.{ForeignLink}
use Rattle.judge_model.specs.Placed.{explained_things}
use Rattle.gap_judge.specs.Links.{AreRunGaps}
use Rattle.link_fields.specs.Slots.{AreSlots}
use Rattle.link_judge.proofs.f10_nothing_else.is_filled.Goals as goal

pub returns-then-not-branch : goal.returns-then-not-branch
returns-then-not-branch c =
    let l = c.args.bound.now in
    let placed = c.placed-placed.ensures in
    let slots =
    c.in_ok-slots.ensures l (sym c.parts.ensures) (sym (c.drops.ensures ∙ ap (λ (x : ForeignLink). x.certificate.drops) placed)) c.requires.taken in
    let gaps : AreRunGaps l c.in_ok-gaps.gaps.items = record { some = c.in_ok-gaps.ensures.some; rising = c.in_ok-gaps.ensures.rising; gaps_are = c.in_ok-gaps.ensures.gaps l c.requires.pairs } in
    let filled =
    c.in_ok-are_gaps_filled.ensures l (sym (c.image.ensures ∙ ap (λ (x : ForeignLink). x.image) placed)) (sym (c.deref-2.ensures.value ∙ (c.in_ok-things.ensures ∙ ap explained_things placed)))
    (subst (AreSlots l) (sym c.deref-3.ensures.value) slots) (subst (AreRunGaps l) (sym c.deref-4.ensures.value) gaps) in (
      λ t. absurd (false≢true t),
      λ f. sym c.if-not-branch.true ∙ filled.1 (record { gaps = f.gaps }),
    )

pub returns : goal.returns
returns c =
    let l = c.args.bound.now in
    let placed = c.placed-placed.ensures in
    let slots =
    c.in_ok-slots.ensures l (sym c.parts.ensures) (sym (c.drops.ensures ∙ ap (λ (x : ForeignLink). x.certificate.drops) placed)) c.requires.taken in
    let gaps : AreRunGaps l c.in_ok-gaps.gaps.items = record { some = c.in_ok-gaps.ensures.some; rising = c.in_ok-gaps.ensures.rising; gaps_are = c.in_ok-gaps.ensures.gaps l c.requires.pairs } in
    let bounds = c.do_bounds_spare_slots.ensures l (sym c.parts-2.ensures) (subst (AreSlots l) (sym c.deref.ensures.value) slots) in
    let filled =
    c.in_ok-are_gaps_filled.ensures l (sym (c.image.ensures ∙ ap (λ (x : ForeignLink). x.image) placed)) (sym (c.deref-2.ensures.value ∙ (c.in_ok-things.ensures ∙ ap explained_things placed)))
    (subst (AreSlots l) (sym c.deref-3.ensures.value) slots) (subst (AreRunGaps l) (sym c.deref-4.ensures.value) gaps) in (
      λ _. record {
        ends = (bounds.0 c.if-not-do_bounds_spare_slots.false).0;
        starts = (bounds.0 c.if-not-do_bounds_spare_slots.false).1;
        gaps = (filled.0 c.if-not-branch.false).gaps;
      },
      λ _. refl,
    )

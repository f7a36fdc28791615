use Rattle.std.proofs.Common.{◌∙◌, ℕ, List, ap, subst, sym}
use Rattle.std.proofs.lemmas.Bool.{false≢true}
use Rattle.std.proofs.lemmas.Result.{IfOk-weaker}
use Rattle.std.specs.Prelude.{◌↔◌, All, IsTrue}
use Rattle.check_link.specs.Views.{piece_views}
use Rattle.judge_model.specs.Links.{ForeignLink, merged_of}
use Rattle.judge_model.specs.Merged.{AreMergedRight, IsMergedRight}
use Rattle.merge_judge.specs.Lines.{AreEnclosed, AreSized}
use Rattle.link_judge.proofs.MergedLaws.{held_iff, lines_iff, sized}
use Rattle.link_judge.proofs.f04_names.are_merged_right.Goals as goal

pub returns-then-not-are_areas_right : goal.returns-then-not-are_areas_right
returns-then-not-are_areas_right c =
    let l = c.args.placed.now in
    let same = c.behind-placed.view_is ∙ c.claim.ensures in
    let areas = c.deref.ensures.value ∙ ap (λ (x : ForeignLink). x.certificate.areas) same in
    let held = held_iff l c.image.result.now c.deref.result.now c.may_write_all.result c.image.ensures areas c.may_write_all.ensures in (
      λ t. absurd (false≢true t),
      λ m. sym c.if-not-are_areas_right.true ∙ c.are_areas_right.ensures.right.1 (held.1 m.areas),
    )

pub are_lines_right-requires-clause-sized : goal.are_lines_right-requires-clause-sized
are_lines_right-requires-clause-sized c =
    let l = c.args.placed.now in
    subst AreSized (sym (ap piece_views c.deref-2.ensures.value ∙ (c.in_ok-merged.ensures ∙ ap merged_of c.loaded.ensures))) (sized l)

pub are_lines_right-requires-clause-enclosed : goal.are_lines_right-requires-clause-enclosed
are_lines_right-requires-clause-enclosed c =
    subst (λ (image : List ℕ). AreEnclosed image c.deref-3.result.now) (c.image.ensures ∙ sym c.image-2.ensures)
    (subst (AreEnclosed c.image.result.now) (c.deref.ensures.value ∙ sym c.deref-3.ensures.value)
    (c.are_areas_right.ensures.enclosed c.if-not-are_areas_right.false))

pub returns : goal.returns
returns c =
    let l = c.args.placed.now in
    let same = c.behind-placed.view_is ∙ c.claim.ensures in
    let areas = c.deref.ensures.value ∙ ap (λ (x : ForeignLink). x.certificate.areas) same in
    let held = held_iff l c.image.result.now c.deref.result.now c.may_write_all.result c.image.ensures areas c.may_write_all.ensures in
    let lines =
    lines_iff l c.image-2.result.now (piece_views c.deref-2.result.now) c.deref-3.result.now c.deref-4.result.now c.image-2.ensures
    (ap piece_views c.deref-2.ensures.value ∙ (c.in_ok-merged.ensures ∙ ap merged_of c.loaded.ensures))
    (c.deref-3.ensures.value ∙ ap (λ (x : ForeignLink). x.certificate.areas) same)
    (c.deref-4.ensures.value ∙ ap (λ (x : ForeignLink). x.certificate.merged) same) in
    IfOk-weaker c.are_lines_right.result
    (λ b. IsTrue b ↔ All (IsMergedRight c.image-2.result.now (piece_views c.deref-2.result.now) c.deref-3.result.now) c.deref-4.result.now)
    (λ b. IsTrue b ↔ AreMergedRight l)
    (λ b right. (
      λ t. record {
        pieces = lines.0 (right.0 t);
        areas = held.0 (c.are_areas_right.ensures.right.0 c.if-not-are_areas_right.false);
      },
      λ m. right.1 (lines.1 m.pieces),
    )) c.are_lines_right.ensures

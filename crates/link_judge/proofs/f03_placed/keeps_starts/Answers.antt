use Rattle.std.proofs.Common.{◌∙◌, ap, map}
use Rattle.std.proofs.lemmas.Result.{IfOk-weaker}
use Rattle.std.specs.Prelude.{◌↔◌, All, IsTrue}
use Rattle.check_link.specs.Views.{placed_views}
use Rattle.elf_model.specs.Image.MemoryImage.{loads}
use Rattle.judge_model.specs.Links.{ForeignLink}
use Rattle.foreign_words.specs.Says as says
use Rattle.place_judge.specs.Places.{StartsAt, start_view}
use Rattle.link_judge.specs.Placed.{KeepsStarts}
use Rattle.link_judge.proofs.Starts.{kept}
use Rattle.link_judge.proofs.f03_placed.keeps_starts.Goals as goal

pub returns : goal.returns
returns c =
    let l = c.args.placed.now in
    let same = c.claim.view_is ∙ c.claim-claim.ensures in
    let qs = placed_views c.placed.result.now in
    let ss = c.deref-2.result.now in
    IfOk-weaker c.are_starts_right.result
    (λ b. IsTrue b ↔ All (λ s. StartsAt qs (start_view s)) ss)
    (λ b. IsTrue b ↔ KeepsStarts l)
    (kept l c.segments.result.now qs ss _
    (ap (λ (x : ForeignLink). x.plan.segment) same)
    (c.segments.ensures ∙ ap loads c.image.ensures)
    c.placed.ensures
    (ap (map start_view) c.deref-2.ensures.value
    ∙ (c.in_ok-starts.ensures ∙ (ap (map says.start_view) c.deref.ensures.value ∙ ap (λ (x : ForeignLink). x.plan.starts) same)))
    (c.begins_at.ensures.0 c.if-not-begins_at.false)) c.are_starts_right.ensures

use Rattle.std.proofs.Common.{◌∙◌, ap, subst, sym}
use Rattle.elf_model.specs.Image.MapText.{Ascends}
use Rattle.judge_model.specs.Certificates.{MergedBefore}
use Rattle.judge_model.specs.Links.{ForeignLink}
use Rattle.link_judge.proofs.f08_frames.holds.Goals as goal

pub new-lines-requires : goal.new-lines-requires
new-lines-requires c =
    let same = c.behind-placed.view_is ∙ c.claim.ensures ∙ c.placed-placed.ensures in
    subst (Ascends MergedBefore) (sym (c.deref-2.ensures.value ∙ ap (λ (x : ForeignLink). x.certificate.frames) same))
    c.requires.ordered.frames

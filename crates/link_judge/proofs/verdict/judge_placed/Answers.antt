use Rattle.std.proofs.Common.{◌∙◌, ap, arith, subst, sym}
use Rattle.elf_model.specs.Image.MapText.{Ascends}
use Rattle.judge_model.specs.Certificates.{MergedBefore}
use Rattle.judge_model.specs.Links.{ForeignLink}
use Rattle.judge_model.specs.declared.judgement.Requirement.TheVariants.{F3}
use Rattle.link_judge.proofs.verdict.judge_placed.Goals as goal

pub new-merged-requires : goal.new-merged-requires
new-merged-requires c =
    let same = c.behind-placed.view_is ∙ c.claim.ensures in
    subst (Ascends MergedBefore) (sym (c.deref.ensures.value ∙ ap (λ (x : ForeignLink). x.certificate.merged) same))
    (c.requires.before F3 (omega arith)).ordered.merged

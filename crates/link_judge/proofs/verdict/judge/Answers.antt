use Rattle.std.proofs.Common.{sym, subst}
use Rattle.std.proofs.lemmas.Result.{IfOk-weaker}
use Rattle.elf_model.specs.Inputs.Files.{files_of}
use Rattle.foreign_words.specs.Wider.{plan_with}
use Rattle.foreign_words.specs.declared.wider.Wider.{Wider}
use Rattle.judge_model.specs.Certificates.{certificate_of}
use Rattle.judge_model.specs.Words.{IsAsked}
use Rattle.link_judge.specs.Judged.{IsJudgedBy, Judges, link_of}
use Rattle.link_judge.proofs.verdict.judge.Goals as goal

pub returns : goal.returns
returns c = λ words spoken.
    let files = files_of c.args.files.now in
    let image = c.args.image.now in
    let certificate = certificate_of c.args.certificate.now in
    let plan = plan_with c.in_ok-plan.plan c.wider.result.now in
    let asked : IsAsked words plan =
    subst (λ (w : Wider). IsAsked words (plan_with c.in_ok-plan.plan w)) (sym c.wider.ensures) (c.in_ok-plan.ensures words spoken) in
    IfOk-weaker c.judge_claim.result
    (λ j. Judges j (link_of files plan image certificate))
    (λ j. IsJudgedBy words files image certificate j)
    (λ j h. record { plan = plan; asked = asked; judges = h }) c.judge_claim.ensures

use Rattle.std.proofs.Common.{ℕ, List, subst, sym}
use Rattle.elf_model.specs.Inputs.Files.{files_of}
use Rattle.elf_model.specs.declared.input_file.InputFile.{InputFile}
use Rattle.judge_model.specs.Certificates.{certificate_of}
use Rattle.judge_main.proofs.Judged.{said_of_judged}
use Rattle.judge_main.specs.Opinions.{IsOpinion}
use Rattle.judge_main.proofs.program.opinion_of.Goals as goal

pub returns : goal.returns
returns c words spoken =
    let given = c.args.given.now in
    let certificate = certificate_of given.certificate in
    let files = c.deref.result.now in
    let image = c.deref-2.result.now in
    subst (λ (fs : List InputFile). IsOpinion words (files_of fs) given.image.items certificate c.from.result) c.deref.ensures.value
    (subst (λ (xs : List ℕ). IsOpinion words (files_of files) xs certificate c.from.result) c.deref-2.ensures.value
    (subst (IsOpinion words (files_of files) image certificate) (sym c.from.ensures)
    (said_of_judged words (files_of files) image certificate c.in_ok-judgement.judgement (c.in_ok-judgement.ensures words spoken))))

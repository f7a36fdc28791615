use Rattle.std.proofs.Common.{◌∙◌, sym}
use Rattle.elf_model.specs.Inputs.Files.{files_of}
use Rattle.judge_model.specs.Certificates.{certificate_of}
use Rattle.judge_main.proofs.Judged.{right_where_shown}
use Rattle.judge_main.proofs.Told.{failed_of_memory}
use Rattle.judge_main.proofs.program.answer_given.Goals as goal

pub returns-in-Ok-clause-said : goal.returns-in-Ok-clause-said
returns-in-Ok-clause-said g c words spoken said = record {
  opinion = c.in-Ok.opinion;
  judged = c.in-Ok.ensures words spoken;
  status_is = c.tell.ensures.status;
  line = c.tell.ensures.printed;
}

pub returns-in-Ok-clause-right : goal.returns-in-Ok-clause-right
returns-in-Ok-clause-right g c words spoken said plan asked =
    let given = c.args.given.now in
    let both = right_where_shown words (files_of given.files.items) given.image.items (certificate_of given.certificate) c.in-Ok.opinion
    (c.in-Ok.ensures words spoken) plan asked in
    (λ zero. both.0 (sym c.tell.ensures.status ∙ zero), λ shown. c.tell.ensures.status ∙ both.1 shown)

pub returns-in-Err-clause-fault : goal.returns-in-Err-clause-fault
returns-in-Err-clause-fault g c high low = record {
  fault = c.from.result;
  is = failed_of_memory c.from.result c.from.ensures;
  status_is = c.fail.ensures.status;
  line = c.fail.ensures.printed;
}

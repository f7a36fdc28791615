use Rattle.std.proofs.Common.{subst}
use Rattle.elf_model.specs.Inputs.Files.{files_of}
use Rattle.judge_model.specs.Certificates.{certificate_of}
use Rattle.judge_model.specs.declared.certificate.Certificate.{Certificate}
use Rattle.judge_main.proofs.Told.{never_said}
use Rattle.judge_main.specs.Opinions.{IsSaid, Says}
use Rattle.judge_main.specs.declared.fault.Fault.TheVariants.{Failed}
use Rattle.judge_main.proofs.program.answer_spoken.Goals as goal

pub returns-in-Ok-clause-said : goal.returns-in-Ok-clause-said
returns-in-Ok-clause-said g c words spoken said =
    let given = c.in-Ok.given in (
      files_of given.files.items,
      given.image.items,
      subst
          (λ (x : Certificate).
          Says words (files_of given.files.items) given.image.items (certificate_of x) c.answer_given.result (g.O.Write.contents c.args.out.now)
          (g.O.Write.contents c.answer_given.new.out))
          c.in-Ok.ensures.certificate (c.answer_given.ensures.said words spoken said),
    )

pub returns-in-Err-clause-said : goal.returns-in-Err-clause-said
returns-in-Err-clause-said g c words spoken said =
    absurd (never_said c.in-Err.failure c.in-Err.ensures.fault (subst IsSaid c.fail.ensures.status said))

pub returns-in-Err-clause-fault : goal.returns-in-Err-clause-fault
returns-in-Err-clause-fault g c high low = record {
  fault = Failed c.in-Err.failure;
  is = c.in-Err.ensures.fault;
  status_is = c.fail.ensures.status;
  line = c.fail.ensures.printed;
}

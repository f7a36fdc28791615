use Rattle.std.proofs.Common.{ℕ, List, arith, inl, subst, ◌∙◌}
use Rattle.elf_model.specs.Inputs.Files.{words_of}
use Rattle.judge_model.specs.Certificates.{certificate_of}
use Rattle.judge_main.proofs.Judged.{right_of_said}
use Rattle.judge_main.proofs.Told.{told_of_failed, unnamed_status}
use Rattle.judge_main.specs.Opinions.{HasRightForeign, SaysWith}
use Rattle.judge_main.proofs.program.run.Goals as goal

pub returns-in-Ok-clause-said : goal.returns-in-Ok-clause-said
returns-in-Ok-clause-said g c said = (
  certificate_of c.in-Ok.certificate,
  subst
      (λ (ws : List (List ℕ)).
      SaysWith ws (certificate_of c.in-Ok.certificate) c.answer_words.result (g.O.Write.contents c.args.out.now)
      (g.O.Write.contents c.answer_words.new.out))
      c.others.ensures (c.answer_words.ensures.said said),
)

pub returns-in-Ok-clause-right : goal.returns-in-Ok-clause-right
returns-in-Ok-clause-right g c zero =
    subst HasRightForeign c.others.ensures
    (right_of_said (words_of c.others.result.now) c.answer_words.result (g.O.Write.contents c.args.out.now) (g.O.Write.contents c.answer_words.new.out)
    (certificate_of c.in-Ok.certificate, c.answer_words.ensures.said (inl (omega (arith, zero)))) zero)

pub returns-in-Ok-clause-fault : goal.returns-in-Ok-clause-fault
returns-in-Ok-clause-fault g c high low =
    told_of_failed (words_of c.args.words.now) c.answer_words.result (g.E.Write.contents c.args.err.now) (g.E.Write.contents c.answer_words.new.err)
    c.in-Ok.ensures.named (c.answer_words.ensures.fault high low)

pub returns-in-Err-clause-fault : goal.returns-in-Err-clause-fault
returns-in-Err-clause-fault g c high low = record {
  fault = c.in-Err.fault;
  is = c.in-Err.ensures.fault;
  status_is = c.fail.ensures.status;
  line = c.fail.ensures.printed;
}

pub returns-in-Err-clause-unnamed : goal.returns-in-Err-clause-unnamed
returns-in-Err-clause-unnamed g c none =
    c.fail.ensures.status ∙ unnamed_status (words_of c.args.words.now) c.in-Err.fault none c.in-Err.ensures.fault

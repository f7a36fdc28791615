use Rattle.std.proofs.Common.{[]}
use Rattle.judge_main.proofs.Told.{failed_of_memory}
use Rattle.judge_main.specs.declared.opinion.Opinion.TheVariants.{OtherWords}
use Rattle.judge_main.proofs.program.answer_words.Goals as goal

pub returns-in-Ok-None-clause-said : goal.returns-in-Ok-None-clause-said
returns-in-Ok-None-clause-said g c said = (
  [],
  [],
  record {
    opinion = OtherWords;
    judged = c.in-Ok-None.ensures.none c.in-Ok-None.field-0-is;
    status_is = c.tell.ensures.status;
    line = c.tell.ensures.printed;
  },
)

pub returns-in-Err-clause-fault : goal.returns-in-Err-clause-fault
returns-in-Err-clause-fault g c high low = record {
  fault = c.from.result;
  is = failed_of_memory c.from.result c.from.ensures;
  status_is = c.fail.ensures.status;
  line = c.fail.ensures.printed;
}

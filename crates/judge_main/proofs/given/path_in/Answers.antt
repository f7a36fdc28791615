use Rattle.command.proofs.Texts.{after_is}
use Rattle.judge_main.specs.Faults.{certificate_word}
use Rattle.judge_main.proofs.given.path_in.Goals as goal

pub returns : goal.returns
returns c = after_is certificate_word c.args.word.now _ c.strip_prefix.ensures.cases

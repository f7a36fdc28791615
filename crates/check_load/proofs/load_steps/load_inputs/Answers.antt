use Rattle.check_load.proofs.RoundLaws.{side_dropped}
use Rattle.check_load.proofs.load_steps.load_inputs.Goals as goal

pub load_step-requires-clause-numbers : goal.load_step-requires-clause-numbers
load_step-requires-clause-numbers c = side_dropped c.loop-at.at c.args.inputs.now c.split_at.result.1.now c.split_at.ensures.back c.requires.numbers

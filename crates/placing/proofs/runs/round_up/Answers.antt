use Rattle.elf_model.proofs.Running.{rounded_up}
use Rattle.placing.proofs.runs.round_up.Goals as goal

pub returns-clause-above : goal.returns-clause-above
returns-clause-above c = (rounded_up c.args.align c.args.address c.requires.some).0

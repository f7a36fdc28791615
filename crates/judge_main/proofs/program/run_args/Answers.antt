use Rattle.std.proofs.Common.{drop}
use Rattle.elf_model.specs.Inputs.Files.{words_of}
use Rattle.judge_main.proofs.program.run_args.Goals as goal

pub returns-in-Ok-clause-said : goal.returns-in-Ok-clause-said
returns-in-Ok-clause-said g c said = (drop 1 (words_of c.deref.result.now), c.run.ensures.said said)

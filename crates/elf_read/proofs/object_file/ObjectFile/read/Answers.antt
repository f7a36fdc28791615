use Rattle.elf_read.proofs.Faults.{only_memory}
use Rattle.elf_read.proofs.object_file.ObjectFile.read.Goals as goal

pub returns-clause-only : goal.returns-clause-only
returns-clause-only c = only_memory c.args.view c.judge.result c.judge.ensures.fault

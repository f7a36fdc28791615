use Rattle.elf_model.proofs.PowersOfTwo.{power_test}
use Rattle.elf_read.proofs.sections.is_power_of_two.Goals as goal

pub returns : goal.returns
returns c = power_test c.args.number c.is_power_of_two.result c.is_power_of_two.ensures

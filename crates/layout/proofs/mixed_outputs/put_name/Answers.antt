use Rattle.elf_model.proofs.UsedNames.{name_added}
use Rattle.layout.proofs.mixed_outputs.put_name.Goals as goal

pub returns : goal.returns
returns c = name_added c.args.name c.args.names.now c.insert.new.self c.in_ok-insert.ensures.updates

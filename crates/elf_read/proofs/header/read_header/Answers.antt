use Rattle.std.proofs.Common.{ap, ◌∙◌}
use Rattle.elf_model.specs.Inputs.Records.{file_header}
use Rattle.elf_read.proofs.header.read_header.Goals as goal

pub returns-clause-header : goal.returns-clause-header
returns-clause-header c = c.in-Some.ensures.1 ∙ ap file_header (c.new.ensures ∙ c.bytes.ensures)

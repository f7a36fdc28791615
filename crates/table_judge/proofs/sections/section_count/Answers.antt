use Rattle.std.proofs.Common.{◌∙◌, ap, sym}
use Rattle.elf_model.specs.Inputs.Records.{file_header}
use Rattle.table_judge.proofs.sections.section_count.Goals as goal

pub has_first-requires : goal.has_first-requires
has_first-requires c = c.header-header.ensures ∙ ap file_header (sym c.image-file.ensures.bytes)

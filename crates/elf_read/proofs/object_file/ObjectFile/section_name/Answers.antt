use Rattle.std.proofs.Common.{ap, sym, ◌∙◌}
use Rattle.elf_model.specs.Inputs.ObjectFile.{section_name}
use Rattle.elf_read.proofs.Named.{section_told}
use Rattle.elf_read.proofs.object_file.ObjectFile.section_name.Goals as goal

pub returns : goal.returns
returns c =
    section_told c.self.inside.file c.self.inside.section_strings c.self.inside.sections c.args.i c.in_ok-section.section _ c.self.invariant.object
    c.self.invariant.section_strings_are c.self.invariant.sections_are (sym c.get.ensures ∙ c.in_ok-section.was) c.text_at.ensures
    ∙ ap (λ bs. section_name bs c.args.i) c.self.view_is

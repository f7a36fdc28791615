use Rattle.std.proofs.Common.{ap, sym, ◌∙◌}
use Rattle.std.specs.List.{slice_get}
use Rattle.elf_model.specs.Inputs.ObjectFile.{section, sections}
use Rattle.elf_read.proofs.SectionBytes.{size_told}
use Rattle.elf_read.proofs.object_file.ObjectFile.section_bytes.Goals as goal

pub returns-clause-size : goal.returns-clause-size
returns-clause-size c =
    let bytes = c.self.inside.file in
    let there = ap (λ ss. slice_get ss c.args.i) (sym c.self.invariant.sections_are) ∙ sym c.get.ensures ∙ c.in_ok-section.was in
    size_told bytes (sections bytes) c.args.i c.in_ok-section.section c.bytes.result.now c.self.invariant.object.ranges there
    (sym c.has_no_bytes.ensures ∙ c.if-has_no_bytes.false) (c.bytes.ensures ∙ c.contents.ensures)
    ∙ ap (λ bs. (section (sections bs) c.args.i).sh_size) c.self.view_is

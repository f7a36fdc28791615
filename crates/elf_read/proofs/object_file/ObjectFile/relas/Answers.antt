use Rattle.std.proofs.Common.{ap, length, sym, ◌∙◌}
use Rattle.std.specs.List.{slice_get}
use Rattle.elf_model.specs.Inputs.ObjectFile.{sections}
use Rattle.elf_read.proofs.RelaRuns.{rela_inside}
use Rattle.elf_read.proofs.object_file.ObjectFile.relas.Goals as goal

pub of_section-requires : goal.of_section-requires
of_section-requires c =
    let bytes = c.self.inside.file in
    let there = ap (λ ss. slice_get ss c.args.i) (sym c.self.invariant.sections_are) ∙ sym c.get.ensures ∙ c.in_ok-section.was in
    rela_inside (length bytes) (sections bytes) c.args.i c.in_ok-section.section there c.if-section-ne-SHT_RELA.false c.self.invariant.object.ranges

use Rattle.std.proofs.Common.{drop}
use Rattle.std.specs.Prelude.{All}
use Rattle.elf_model.specs.Inputs.ObjectFile.{section, sections}
use Rattle.elf_model.specs.Link.Pieces.{IsLawfulKind}
use Rattle.elf_model.proofs.Rests.{Left}
use Rattle.layout.proofs.section_kinds.is_lawful_object.Given as goal

abbrev pub invariant-loop-section : goal.invariant-loop-section
invariant-loop-section l =
    Left (All (λ i. IsLawfulKind (section (sections l.loaded.object) i)) l.sections)
    (All (λ i. IsLawfulKind (section (sections l.loaded.object) i)) (drop l.section-index l.sections))

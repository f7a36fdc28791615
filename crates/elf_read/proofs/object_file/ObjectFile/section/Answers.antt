use Rattle.std.proofs.Common.{ap, ◌∙◌}
use Rattle.std.specs.Prelude.{unwrap_or}
use Rattle.std.proofs.lemmas.Option.{unwrap_or-slice_get}
use Rattle.elf_model.specs.Inputs.ObjectFile.{null_section, section, sections}
use Rattle.elf_read.proofs.object_file.ObjectFile.section.Goals as goal

pub returns : goal.returns
returns c =
    c.unwrap_or.ensures ∙ ap (λ o. unwrap_or o null_section) c.get.ensures ∙ unwrap_or-slice_get c.self.inside.sections c.args.i null_section
    ∙ ap (λ ss. section ss c.args.i) (c.self.invariant.sections_are ∙ ap sections c.self.view_is)

use Rattle.std.proofs.Common.{◌∙◌, ap, subst, sym}
use Rattle.std.specs.Prelude.{◌↔◌, IsTrue}
use Rattle.elf_model.specs.Link.LinkerNames.{named_output}
use Rattle.elf_model.specs.Link.Relocation.{IsMixedBound}
use Rattle.elf_model.specs.Link.UsedNames.{is_among}
use Rattle.elf_model.specs.declared.bound.Bound.{Bound}
use Rattle.relocate.proofs.targets.is_mixed_bound.Goals as goal

pub returns-in-OutputStart : goal.returns-in-OutputStart
returns-in-OutputStart c objects are =
    let both = are.each (named_output c.args.name.now) in
    let told = c.contains.ensures ∙ ap (is_among c.args.mixed.now) c.named_output.ensures in
    subst (λ (b : Bound). IsTrue c.contains.result ↔ IsMixedBound objects c.args.name.now b) (sym c.in-OutputStart.is)
    (λ t. both.0 (sym told ∙ t), λ mixed. told ∙ both.1 mixed)

pub returns-in-OutputEnd : goal.returns-in-OutputEnd
returns-in-OutputEnd c objects are =
    let both = are.each (named_output c.args.name.now) in
    let told = c.contains-in-OutputEnd.ensures ∙ ap (is_among c.args.mixed.now) c.named_output-in-OutputEnd.ensures in
    subst (λ (b : Bound). IsTrue c.contains-in-OutputEnd.result ↔ IsMixedBound objects c.args.name.now b) (sym c.in-OutputEnd.is)
    (λ t. both.0 (sym told ∙ t), λ mixed. told ∙ both.1 mixed)

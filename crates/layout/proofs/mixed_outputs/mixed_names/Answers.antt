use Rattle.std.proofs.Common.{◌∙◌, List, ap, false, map}
use Rattle.elf_model.specs.Link.UsedNames.{is_among}
use Rattle.resolve.specs.OutputSections.{output_view}
use Rattle.resolve.specs.declared.output_sections.OutputSection.{OutputSection}
use Rattle.layout.specs.Mixed.{is_twice_from}
use Rattle.layout.proofs.MixedOutputs.{mixed}
use Rattle.layout.proofs.mixed_outputs.mixed_names.Goals as goal

pub returns : goal.returns
returns c = record {
  each = λ n.
      mixed n c.args.resolved.now c.output_sections-outputs.result.now c.output_sections-outputs.ensures (is_among c.in_ok-names.names n)
      (c.in_ok-names.ensures n ∙ ap (λ (os : List OutputSection). is_twice_from n false (map output_view os)) c.deref.ensures.value);
}

use Rattle.std.proofs.Common.{◌∙◌, ap}
use Rattle.std.specs.List.{list_any}
use Rattle.resolve.specs.OutputSections.{is_named}
use Rattle.resolve.proofs.NamedOutputs.{named_where}
use Rattle.resolve.proofs.outputs.output_names_of.Goals as goal

pub returns : goal.returns
returns c = λ objects are. record {
  each = λ n. c.in_ok-names.ensures n ∙ ap (list_any (is_named n)) c.deref.ensures.value ∙ named_where n objects c.args.outputs.now are;
}

use Rattle.std.proofs.Common.{◌∙◌, false, sym, true}
use Rattle.resolve.proofs.ArrayNames.{output_none, output_some}
use Rattle.resolve.proofs.bounds.named_output.Goals as goal

pub returns-in-Some : goal.returns-in-Some
returns-in-Some c =
    output_some c.args.name.now c.array_named.result c.array_named.ensures c.in-Some.field-0-0 c.in-Some.output c.in-Some.is

pub returns-then-is_start_name : goal.returns-then-is_start_name
returns-then-is_start_name c =
    output_none c.args.name.now c.array_named.result c.array_named.ensures c.in_default.is true
    (sym c.if-is_start_name.true ∙ c.is_start_name.ensures) c.behind.result.now c.behind.ensures

pub returns : goal.returns
returns c =
    output_none c.args.name.now c.array_named.result c.array_named.ensures c.in_default.is false
    (sym c.if-is_start_name.false ∙ c.is_start_name.ensures) c.behind-2.result.now c.behind-2.ensures

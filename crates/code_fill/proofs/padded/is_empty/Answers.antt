use Rattle.code_fill.proofs.Padding.{nothing}
use Rattle.code_fill.proofs.padded.is_empty.Goals as goal

pub returns : goal.returns
returns c = nothing c.args.run.bytes.now c.args.run.zeros c.are_both_nothing.result c.are_both_nothing.ensures

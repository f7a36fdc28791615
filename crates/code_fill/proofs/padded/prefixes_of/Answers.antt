use Rattle.std.proofs.Common.{◌∙◌, arith, sym}
use Rattle.code_fill.proofs.Padding.{length-padded, prefixes_padded}
use Rattle.code_fill.proofs.padded.prefixes_of.Goals as goal

pub returns-clause-exact : goal.returns-clause-exact
returns-clause-exact c = c.count_prefixes.ensures.exact ∙ sym (prefixes_padded c.args.run.bytes.now c.args.run.zeros)

pub returns-clause-within : goal.returns-clause-within
returns-clause-within c = let n = length-padded c.args.run.bytes.now c.args.run.zeros in let l = c.count_prefixes.ensures.within in omega (arith, n, l)

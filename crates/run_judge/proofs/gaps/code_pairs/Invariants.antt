use Rattle.std.proofs.Common.{◌≡◌, ◌++◌, drop}
use Rattle.std.specs.Prelude.{filter}
use Rattle.run_judge.specs.Pairs.{is_code_pair}
use Rattle.run_judge.proofs.gaps.code_pairs.Given as goal

abbrev pub invariant-loop-pair : goal.invariant-loop-pair
invariant-loop-pair l = l.code.items ++ filter is_code_pair (drop l.pair-index l.pairs) ≡ filter is_code_pair l.pairs

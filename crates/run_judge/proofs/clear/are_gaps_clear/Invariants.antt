use Rattle.std.proofs.Common.{drop}
use Rattle.std.specs.Prelude.{◌↔◌, All}
use Rattle.run_judge.specs.Clear.{IsGapClear}
use Rattle.run_judge.proofs.clear.are_gaps_clear.Given as goal

abbrev pub invariant-loop-pair : goal.invariant-loop-pair
invariant-loop-pair l = All (IsGapClear l.stretches) l.pairs ↔ All (IsGapClear l.stretches) (drop l.pair-index l.pairs)

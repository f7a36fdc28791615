use Rattle.std.proofs.Common.{◌≡◌, ◌+◌, drop}
use Rattle.std.specs.List.{prefix_len}
use Rattle.judge_model.specs.Tables.{is_local_entry}
use Rattle.symbol_judge.proofs.symbols.count_first.Given as goal

abbrev pub invariant-loop-k : goal.invariant-loop-k
invariant-loop-k l = l.k + prefix_len is_local_entry (drop l.k l.entries) ≡ prefix_len is_local_entry l.entries

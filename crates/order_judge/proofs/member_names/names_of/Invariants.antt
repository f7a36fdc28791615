use Rattle.std.proofs.Common.{◌≡◌, ◌++◌, drop, map}
use Rattle.order_judge.specs.MemberNames.{entry_of}
use Rattle.order_judge.proofs.member_names.names_of.Given as goal

abbrev pub invariant-loop-entry : goal.invariant-loop-entry
invariant-loop-entry l = map entry_of l.names.items ++ drop l.entry-index l.entries ≡ l.entries

use Rattle.std.proofs.Common.{◌≡◌, ◌-◌, drop, length}
use Rattle.check_load.specs.KeptRelocations.{entries_behind}
use Rattle.check_load.proofs.kept_relocations.EntriesIterator.next.Given as goal

-- only entries of type NONE were passed over
abbrev pub invariant-loop-self : goal.invariant-loop-self
invariant-loop-self l = entries_behind l.self-inside.rela l.self-inside.next (drop l.self-inside.next l.self-inside.entries) ≡ l.fn.self

abbrev pub decreases-loop-self : goal.decreases-loop-self
decreases-loop-self l = length l.self-inside.entries - l.self-inside.next

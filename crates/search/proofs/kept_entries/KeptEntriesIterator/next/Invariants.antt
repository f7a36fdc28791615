use Rattle.std.proofs.Common.{◌≡◌, ◌-◌, drop, length}
use Rattle.std.specs.Prelude.{filter}
use Rattle.elf_model.specs.Link.Relocation.{is_some_kind}
use Rattle.search.proofs.kept_entries.KeptEntriesIterator.next.Given as goal

-- only entries of type NONE were passed over
abbrev pub invariant-loop-self : goal.invariant-loop-self
invariant-loop-self l = filter is_some_kind (drop l.self-inside.next l.self-inside.entries) ≡ l.fn.self

abbrev pub decreases-loop-self : goal.decreases-loop-self
decreases-loop-self l = length l.self-inside.entries - l.self-inside.next

use Rattle.std.proofs.Common.{◌-◌, List, length}
use Rattle.elf_model.specs.Inputs.Opening.{Opened}
use Rattle.search.specs.Waiting.{Covers}
use Rattle.search.proofs.waits.Waits.catch_up.Given as goal

abbrev pub invariant-loop-self : goal.invariant-loop-self
invariant-loop-self g l = (os : List Opened) → Covers l.loader os l.fn.self → Covers l.loader os l.self

abbrev pub decreases-loop-self : goal.decreases-loop-self
decreases-loop-self g l = length l.loader.names.requested - l.self.seen

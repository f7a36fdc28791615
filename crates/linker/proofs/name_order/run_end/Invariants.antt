use Rattle.std.proofs.Common.{◌≡◌, ◌<◌, ◌≤◌, ◌-◌, length}
use Rattle.std.specs.Prelude.{All}
use Rattle.linker.specs.NameKeys.{key_at, run_in}
use Rattle.linker.proofs.name_order.run_end.Given as goal

abbrev pub invariant-loop-to : goal.invariant-loop-to
invariant-loop-to l = (l.from < l.to) × (l.to ≤ length l.keys) × All (λ k. k.key ≡ key_at l.keys l.from) (run_in l.from l.to l.keys)

abbrev pub decreases-loop-to : goal.decreases-loop-to
decreases-loop-to l = length l.keys - l.to

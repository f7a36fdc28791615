use Rattle.std.proofs.Common.{◌≡◌, ◌<◌, ℕ, false}
use Rattle.resolve.specs.Left.{is_linkers}
use Rattle.resolve.proofs.linker_names.any_linkers.Given as goal

abbrev pub invariant-loop-number : goal.invariant-loop-number
invariant-loop-number l = (n : ℕ) → n < l.number → is_linkers l.chosen l.places l.outputs l.loaded.names n ≡ false

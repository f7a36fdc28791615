use Rattle.std.proofs.Common.{◌≡◌, ◌<◌, [], ℕ, Some}
use Rattle.std.specs.List.{slice_get}
use Rattle.elf_model.specs.Inputs.Opening.{Opened}
use Rattle.search.specs.Waiting.{Awaits}
use Rattle.search.proofs.waits.waiting_now.Given as goal

abbrev pub invariant-loop-i : goal.invariant-loop-i
invariant-loop-i g l = (k : ℕ) (o : Opened) → k < l.i → slice_get l.inputs k ≡ Some o → Awaits l.loader [] k o l.waiting

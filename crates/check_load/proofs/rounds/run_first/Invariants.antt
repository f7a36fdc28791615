use Rattle.std.proofs.Common.{◌≡◌, ◌<◌, ℕ, Some, drop, true}
use Rattle.std.specs.List.{slice_get}
use Rattle.elf_model.specs.Link.Loading.{round}
use Rattle.elf_model.specs.Inputs.Opening.{Opened}
use Rattle.check_load.specs.Loaders.{Knows, loaded}
use Rattle.check_load.specs.Rounds.{IsSpent}
use Rattle.check_load.proofs.rounds.run_first.Given as goal

abbrev pub invariant-loop-input : goal.invariant-loop-input
invariant-loop-input l = record {
  plan : l.loader.plan.now ≡ l.fn.loader.plan.now;
  known : Knows l.places l.loader;
  spent : (k : ℕ) (o : Opened) → k < l.input-index → slice_get l.inputs k ≡ Some o → o.whole ≡ true → IsSpent (loaded l.loader) o;
  rest : round l.fn.loader.plan.now (drop l.input-index l.inputs) (loaded l.loader) ≡ round l.fn.loader.plan.now l.inputs (loaded l.fn.loader);
}

use Rattle.std.proofs.Common.{◌≡◌, ◌≤◌, ◌-◌, drop, length}
use Rattle.elf_model.specs.Link.Loading.{round}
use Rattle.check_load.specs.Loaders.{Knows, loaded}
use Rattle.check_load.specs.Rounds.{AreSpent}
use Rattle.check_load.proofs.rounds.run_round.Given as goal

abbrev pub invariant-loop-i : goal.invariant-loop-i
invariant-loop-i l = record {
  plan : l.loader.plan.now ≡ l.fn.loader.plan.now;
  known : Knows l.places l.loader;
  spent : AreSpent (loaded l.loader) l.inputs;
  within : l.from ≤ length l.inputs;
  rest : round l.fn.loader.plan.now (drop l.from l.inputs) (loaded l.loader) ≡ round l.fn.loader.plan.now l.inputs (loaded l.fn.loader);
}

abbrev pub decreases-loop-i : goal.decreases-loop-i
decreases-loop-i l = length l.inputs - l.from

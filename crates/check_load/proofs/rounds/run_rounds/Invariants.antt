use Rattle.std.proofs.Common.{◌≡◌}
use Rattle.elf_model.specs.Link.Loading.{rounds}
use Rattle.elf_model.specs.Link.LoadingBounds.{left_of_all}
use Rattle.check_load.specs.Loaders.{Knows, loaded}
use Rattle.check_load.specs.Rounds.{AreSpent}
use Rattle.check_load.proofs.rounds.run_rounds.Given as goal

abbrev pub invariant-loop-loader : goal.invariant-loop-loader
invariant-loop-loader l = record {
  plan : l.loader.plan.now ≡ l.fn.loader.plan.now;
  known : Knows l.places l.loader;
  spent : AreSpent (loaded l.loader) l.inputs;
  rest : rounds l.fn.loader.plan.now l.inputs (loaded l.loader) ≡ rounds l.fn.loader.plan.now l.inputs (loaded l.fn.loader);
}

abbrev pub decreases-loop-loader : goal.decreases-loop-loader
decreases-loop-loader l = left_of_all l.inputs (loaded l.loader)

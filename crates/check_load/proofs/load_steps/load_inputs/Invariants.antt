use Rattle.std.proofs.Common.{◌≡◌, ◌-◌, ◌≤◌, drop, length}
use Rattle.elf_model.specs.Link.Loading.{loaded_steps, steps}
use Rattle.check_load.specs.Loaders.{Knows, loaded}
use Rattle.check_load.proofs.load_steps.load_inputs.Given as goal

abbrev pub invariant-loop-at : goal.invariant-loop-at
invariant-loop-at l = record {
  plan : l.loader.plan.now ≡ l.fn.loader.plan.now;
  known : Knows l.places l.loader;
  within : l.at ≤ length l.inputs;
  rest :
      loaded_steps l.fn.loader.plan.now (steps (drop l.at l.inputs)) (loaded l.loader)
      ≡ loaded_steps l.fn.loader.plan.now (steps l.inputs) (loaded l.fn.loader);
}

abbrev pub decreases-loop-at : goal.decreases-loop-at
decreases-loop-at l = length l.inputs - l.at

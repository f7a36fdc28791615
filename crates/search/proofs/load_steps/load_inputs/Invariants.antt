use Rattle.std.proofs.Common.{◌≡◌, ◌-◌, ◌≤◌, drop, length}
use Rattle.elf_model.specs.Link.Loading.{loaded_steps, steps}
use Rattle.search.specs.Loaders.{IsLater, Knows, loaded}
use Rattle.search.proofs.load_steps.load_inputs.Given as goal

abbrev pub invariant-loop-at : goal.invariant-loop-at
invariant-loop-at g l = record {
  later : IsLater l.fn.loader l.loader;
  known : Knows g.N.NameNumbers.names l.loader;
  within : l.at ≤ length l.inputs;
  rest :
      loaded_steps l.fn.loader.plan.now (steps (drop l.at l.inputs)) (loaded l.loader)
      ≡ loaded_steps l.fn.loader.plan.now (steps l.inputs) (loaded l.fn.loader);
}

abbrev pub decreases-loop-at : goal.decreases-loop-at
decreases-loop-at g l = length l.inputs - l.at

use Rattle.std.proofs.Common.{◌≡◌, ◌-◌, ◌≤◌, drop, length}
use Rattle.elf_model.specs.Link.Loading.{round}
use Rattle.search.specs.Loaders.{IsLater, Knows, loaded}
use Rattle.search.specs.Waiting.{Covers}
use Rattle.search.proofs.rounds.run_round.Given as goal

abbrev pub invariant-loop-i : goal.invariant-loop-i
invariant-loop-i g l = record {
  later : IsLater l.fn.loader l.loader;
  known : Knows g.N.NameNumbers.names l.loader;
  covers : Covers l.loader l.inputs l.waits;
  within : l.from ≤ length l.inputs;
  rest : round l.fn.loader.plan.now (drop l.from l.inputs) (loaded l.loader) ≡ round l.fn.loader.plan.now l.inputs (loaded l.fn.loader);
}

abbrev pub decreases-loop-i : goal.decreases-loop-i
decreases-loop-i g l = length l.inputs - l.from

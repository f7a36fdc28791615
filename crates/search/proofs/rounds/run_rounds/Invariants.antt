use Rattle.std.proofs.Common.{◌≡◌}
use Rattle.elf_model.specs.Link.Loading.{rounds}
use Rattle.elf_model.specs.Link.LoadingBounds.{left_of_all}
use Rattle.search.specs.Loaders.{IsLater, Knows, loaded}
use Rattle.search.specs.Waiting.{Covers}
use Rattle.search.proofs.rounds.run_rounds.Given as goal

abbrev pub invariant-loop-waits : goal.invariant-loop-waits
invariant-loop-waits g l = record {
  later : IsLater l.fn.loader l.loader;
  known : Knows g.N.NameNumbers.names l.loader;
  covers : Covers l.loader l.inputs l.waits;
  rest : rounds l.fn.loader.plan.now l.inputs (loaded l.loader) ≡ rounds l.fn.loader.plan.now l.inputs (loaded l.fn.loader);
}

abbrev pub decreases-loop-waits : goal.decreases-loop-waits
decreases-loop-waits g l = left_of_all l.inputs (loaded l.loader)

use Rattle.std.proofs.Common.{◌≡◌}
use Rattle.elf_model.specs.Link.Loading.{turn}
use Rattle.elf_model.specs.Link.LoadingBounds.{untaken}
use Rattle.elf_model.specs.Inputs.Opening.{archive_entries}
use Rattle.search.specs.Loaders.{IsLater, Knows, loaded}
use Rattle.search.specs.Waiting.{Covers}
use Rattle.search.proofs.turns.take_members.Given as goal

abbrev pub invariant-loop-offset : goal.invariant-loop-offset
invariant-loop-offset g l = record {
  later : IsLater l.fn.loader l.loader;
  known : Knows g.N.NameNumbers.names l.loader;
  covers : Covers l.loader l.inputs l.waits;
  rest : turn l.fn.loader.plan.now l.input (loaded l.loader) ≡ turn l.fn.loader.plan.now l.input (loaded l.fn.loader);
}

abbrev pub decreases-loop-offset : goal.decreases-loop-offset
decreases-loop-offset g l = untaken (loaded l.loader) l.input.number (archive_entries l.input.bytes)

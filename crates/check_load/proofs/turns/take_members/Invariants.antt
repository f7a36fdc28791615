use Rattle.std.proofs.Common.{◌≡◌}
use Rattle.elf_model.specs.Link.Loading.{turn}
use Rattle.elf_model.specs.Link.LoadingBounds.{untaken}
use Rattle.elf_model.specs.Inputs.Opening.{archive_entries}
use Rattle.check_load.specs.Loaders.{Knows, loaded}
use Rattle.check_load.proofs.turns.take_members.Given as goal

abbrev pub invariant-loop-offset : goal.invariant-loop-offset
invariant-loop-offset l = record {
  plan : l.loader.plan.now ≡ l.fn.loader.plan.now;
  known : Knows l.places l.loader;
  rest : turn l.fn.loader.plan.now l.input (loaded l.loader) ≡ turn l.fn.loader.plan.now l.input (loaded l.fn.loader);
}

abbrev pub decreases-loop-offset : goal.decreases-loop-offset
decreases-loop-offset l = untaken (loaded l.loader) l.input.number (archive_entries l.input.bytes)

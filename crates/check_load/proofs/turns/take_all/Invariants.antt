use Rattle.std.proofs.Common.{◌≡◌, drop}
use Rattle.elf_model.specs.Link.Loading.{with_members}
use Rattle.elf_model.specs.Inputs.Opening.{archive_members}
use Rattle.check_load.specs.Loaders.{Knows, loaded}
use Rattle.check_load.proofs.turns.take_all.Given as goal

abbrev pub invariant-loop-member : goal.invariant-loop-member
invariant-loop-member l = record {
  plan : l.loader.plan.now ≡ l.fn.loader.plan.now;
  known : Knows l.places l.loader;
  rest :
      with_members (loaded l.loader) l.input (drop l.member-index (archive_members l.input.bytes))
      ≡ with_members (loaded l.fn.loader) l.input (archive_members l.input.bytes);
}

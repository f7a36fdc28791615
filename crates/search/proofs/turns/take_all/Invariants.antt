use Rattle.std.proofs.Common.{◌≡◌, drop}
use Rattle.elf_model.specs.Link.Loading.{with_members}
use Rattle.elf_model.specs.Inputs.Opening.{archive_members}
use Rattle.search.specs.Loaders.{IsLater, Knows, loaded}
use Rattle.search.proofs.turns.take_all.Given as goal

abbrev pub invariant-loop-member : goal.invariant-loop-member
invariant-loop-member g l = record {
  later : IsLater l.fn.loader l.loader;
  known : Knows g.N.NameNumbers.names l.loader;
  rest :
      with_members (loaded l.loader) l.input (drop l.member-index (archive_members l.input.bytes))
      ≡ with_members (loaded l.fn.loader) l.input (archive_members l.input.bytes);
}

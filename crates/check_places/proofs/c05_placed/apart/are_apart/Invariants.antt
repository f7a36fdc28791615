use Rattle.std.proofs.Common.{drop}
use Rattle.std.specs.Prelude.{AllPairs, ◌↔◌}
use Rattle.elf_model.specs.Link.Placement.{AreApart}
use Rattle.check_places.specs.Sweeps.{Above}
use Rattle.check_places.proofs.c05_placed.apart.are_apart.Given as goal

abbrev pub invariant-loop-thing : goal.invariant-loop-thing
invariant-loop-thing l =
    AllPairs AreApart l.sorted
    ↔ (Above l.end (drop l.thing-index l.sorted) × AllPairs AreApart (drop l.thing-index l.sorted))

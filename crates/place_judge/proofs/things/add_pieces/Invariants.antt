use Rattle.std.proofs.Common.{◌≡◌, ◌++◌, drop, map}
use Rattle.elf_model.specs.Link.Placement.{thing_of}
use Rattle.check_link.specs.Views.{placed_views}
use Rattle.place_judge.proofs.things.add_pieces.Given as goal

abbrev pub invariant-loop-q : goal.invariant-loop-q
invariant-loop-q l =
    l.things.items ++ map thing_of (placed_views (drop l.q-index l.placed))
    ≡ l.initial.things.items ++ map thing_of (placed_views l.placed)

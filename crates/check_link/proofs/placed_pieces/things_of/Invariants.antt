use Rattle.std.proofs.Common.{◌≡◌, ◌++◌, ◌∷◌, drop}
use Rattle.std.specs.Prelude.{map}
use Rattle.elf_model.specs.Link.Placement.{headers_thing, thing_of}
use Rattle.check_link.specs.Views.{placed_views}
use Rattle.check_link.proofs.placed_pieces.things_of.Given as goal

abbrev pub invariant-loop-q : goal.invariant-loop-q
invariant-loop-q l =
    l.things.items ++ map thing_of (placed_views (drop l.q-index l.placed))
    ≡ headers_thing l.memory ∷ (l.got ++ map thing_of (placed_views l.placed))

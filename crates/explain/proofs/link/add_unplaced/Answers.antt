use Rattle.std.proofs.Common.{◌≡◌, rules}
use Rattle.explain.specs.Places.{basis_of}
use Rattle.explain.proofs.link.add_unplaced.Goals as goal

pub pointer_of-pointer-requires : goal.pointer_of-pointer-requires
pointer_of-pointer-requires c = rw c.in-Ok.ensures.exact c.requires.kinds

pub add_wanted-requires-clause-asked : goal.add_wanted-requires-clause-asked
add_wanted-requires-clause-asked c =
    let placed : c.in-Ok.placement ≡ basis_of c.args.loaded.now = search rules in
    record {
      resolved = c.requires.resolved;
      placed = placed;
      kinds = rw placed c.requires.kinds;
      slots_are = rw placed c.in_ok-slots.ensures.slots;
      slots_of = c.in_ok-slots.ensures.objects;
      pointer_is = c.pointer_of-pointer.ensures;
    }

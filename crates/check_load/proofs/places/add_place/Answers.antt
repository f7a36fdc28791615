use Rattle.std.proofs.Common.{refl, length, arith}
use Rattle.std.specs.Vec.{with_item}
use Rattle.std.proofs.lemmas.List.{length-set}
use Rattle.check_load.proofs.Numbering.{size_with}
use Rattle.check_load.proofs.PlaceLaws.{place_added}
use Rattle.check_load.proofs.places.add_place.Goals as goal

pub returns-clause-sized : goal.returns-clause-sized
returns-clause-sized c =
    let size =
    size_with c.args.names.now.names c.add.new.self c.args.name.now c.in_ok-number.number (length c.args.names.now.lists.items) (length c.reach.new.lists.items)
    c.in_ok-number.ensures.added c.in_ok-number.ensures.number c.requires c.in_ok-reach.ensures.size in
    let kept = length-set c.reach.new.lists.items c.in_ok-number.number c.push.new.self in
    omega (arith, size, kept)

pub returns-clause-places : goal.returns-clause-places
returns-clause-places c = λ n.
    place_added c.args.names.now (record { names = c.add.new.self; lists = with_item c.reach.new.lists c.in_ok-number.number c.push.new.self }) c.reach.new.lists.items c.args.name.now c.in_ok-number.number c.args.place c.index_mut.result.now c.push.new.self c.requires
    c.in_ok-number.ensures.added c.in_ok-number.ensures.number c.in_ok-reach.ensures.same c.in_ok-reach.ensures.there c.index_mut.ensures.value c.in_ok-push.ensures.items
    refl n

use Rattle.std.proofs.Common.{arith, length, refl}
use Rattle.std.specs.Prelude.{set}
use Rattle.std.proofs.lemmas.List.{length-set}
use Rattle.check_load.proofs.Numbering.{size_with}
use Rattle.check_load.proofs.NumberedNames.{kept_by}
use Rattle.check_link.proofs.Positions.{named_there, own_put, position_put}
use Rattle.check_link.specs.DefinitionList.{name_in}
use Rattle.check_link.proofs.chosen_definitions.add_position.Goals as goal

pub returns-clause-sized : goal.returns-clause-sized
returns-clause-sized c =
    let size =
    size_with c.args.index.now.names c.number_for.new.names (name_in c.args.definitions.now c.args.position) c.in_ok-number.number (length c.args.index.now.positions.items) (length c.reach.new.positions.items)
    c.in_ok-number.ensures.added c.in_ok-number.ensures.number c.requires.sized c.in_ok-reach.ensures.size in
    let kept = length-set c.reach.new.positions.items c.in_ok-number.number c.keep_first.new.place in
    omega (arith, size, kept)

pub returns-clause-kept : goal.returns-clause-kept
returns-clause-kept c = kept_by c.args.index.now.names c.number_for.new.names (name_in c.args.definitions.now c.args.position) c.in_ok-number.ensures.added

pub returns-clause-positions : goal.returns-clause-positions
returns-clause-positions c =
    position_put c.args.index.now c.number_for.new.names c.reach.new.positions.items
    (set c.reach.new.positions.items c.in_ok-number.number c.keep_first.new.place) (name_in c.args.definitions.now c.args.position) c.in_ok-number.number c.index_mut.result.now c.keep_first.new.place c.args.position
    c.requires.sized c.in_ok-number.ensures.added c.in_ok-number.ensures.number c.in_ok-reach.ensures.same c.in_ok-reach.ensures.there c.index_mut.ensures.value refl c.keep_first.ensures

pub returns-clause-own : goal.returns-clause-own
returns-clause-own c =
    own_put c.args.index.now c.number_for.new.names c.reach.new.positions.items
    (set c.reach.new.positions.items c.in_ok-number.number c.keep_first.new.place) (name_in c.args.definitions.now c.args.position) c.in_ok-number.number c.index_mut.result.now c.keep_first.new.place c.args.position
    c.requires.sized c.in_ok-number.ensures.added c.in_ok-number.ensures.number c.in_ok-reach.ensures.same c.in_ok-reach.ensures.there c.index_mut.ensures.value refl c.keep_first.ensures
    c.args.definitions.now (named_there c.args.definitions.now c.args.position)

use Rattle.check_load.proofs.FreeLaws.{first_gives, none_gives}
use Rattle.check_load.proofs.loader.first_free.Goals as goal

pub returns-in-Some-free_at-clause-exact : goal.returns-in-Some-free_at-clause-exact
returns-in-Some-free_at-clause-exact c =
    first_gives c.args.names.now c.args.taken.now c.args.item c.args.entries.now c.loop-i.awake c.in-Some.i c.in-Some-free_at.offset c.loop-i.invariant.awake
    c.in-Some.ensures.least c.in-Some-free_at.ensures.found

pub returns-clause-exact : goal.returns-clause-exact
returns-clause-exact c =
    none_gives c.args.names.now c.args.taken.now c.args.item c.args.entries.now c.loop-i.awake c.loop-i.invariant.awake c.in_default.ensures.none

use Rattle.checker.proofs.RisingLink.{told_held, told_right}
use Rattle.checker.proofs.rising_fields.are_held_in_order.Goals as goal

pub returns-clause-right : goal.returns-clause-right
returns-clause-right c = λ e. told_right c.args.bound.now _ c.bindings.ensures c.memory.result.now c.memory.ensures c.args.own.now (c.have_fields.ensures e)

pub returns-clause-held : goal.returns-clause-held
returns-clause-held c =
    λ e. told_held c.args.bound.now _ c.bindings.ensures c.memory.result.now c.memory.ensures c.args.own.now (c.have_fields.ensures e) c.requires.there
    c.requires.own

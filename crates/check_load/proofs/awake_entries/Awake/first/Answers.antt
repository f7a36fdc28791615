use Rattle.check_load.proofs.AwakeLaws.{first_least, first_there, none_first, none_from}
use Rattle.check_load.proofs.awake_entries.Awake.first.Goals as goal

pub returns-in_err-place-clause-none : goal.returns-in_err-place-clause-none
returns-in_err-place-clause-none c =
    rw c.from_residual.ensures (none_from c.args.self.now c.args.item c.range.result (c.range.ensures.in_range tt).5 c.in_err-place.ensures.steps.0)

pub returns-then-place-item-clause-none : goal.returns-then-place-item-clause-none
returns-then-place-item-clause-none c =
    none_first c.args.self.now c.args.item c.range.result (c.range.ensures.in_range tt).1 (c.range.ensures.in_range tt).2 c.in_ok-place.place.now c.next.new.self c.in_ok-place.ensures.steps
    c.if-place-item.true

pub returns-clause-there : goal.returns-clause-there
returns-clause-there c =
    first_there c.args.self.now c.args.item c.range.result (c.range.ensures.in_range tt).1 (c.range.ensures.in_range tt).2 c.in_ok-place.place.now c.next.new.self c.in_ok-place.ensures.steps
    c.if-place-item.false

pub returns-clause-least : goal.returns-clause-least
returns-clause-least c =
    first_least c.args.self.now c.args.item c.range.result (c.range.ensures.in_range tt).1 (c.range.ensures.in_range tt).2 c.in_ok-place.place.now c.next.new.self c.in_ok-place.ensures.steps
    c.if-place-item.false

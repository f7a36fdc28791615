use Rattle.check_load.proofs.AwakeLaws.{none_between, none_later}
use Rattle.check_load.proofs.awake_entries.Awake.first_item.Goals as goal

pub returns-in_err-place-clause-none : goal.returns-in_err-place-clause-none
returns-in_err-place-clause-none c =
    rw c.from_residual.ensures (none_later c.args.self.now c.args.from c.range.result (c.range.ensures.in_range tt).5 c.in_err-place.ensures.steps.0)

pub returns-clause-least : goal.returns-clause-least
returns-clause-least c =
    none_between c.args.self.now c.args.from c.range.result (c.range.ensures.in_range tt).1 (c.range.ensures.in_range tt).2 c.in_ok-place.place.now c.next.new.self
    c.in_ok-place.ensures.steps

use Rattle.std.proofs.Common.{arith}
use Rattle.search.proofs.PlaceLaws.{entry_least, entry_there, no_entry, none_from}
use Rattle.search.proofs.waiting_places.WaitingPlaces.first_entry.Goals as goal

pub returns-in_err-place-clause-none : goal.returns-in_err-place-clause-none
returns-in_err-place-clause-none c =
    rw c.from_residual.ensures
    (λ q. none_from c.args.self.now c.args.archive c.range.result (c.range.ensures.in_range tt).5 c.in_err-place.ensures.steps.0 c.args.archive q (omega arith))

pub returns-then-place-archive-clause-none : goal.returns-then-place-archive-clause-none
returns-then-place-archive-clause-none c =
    no_entry c.args.self.now c.args.archive c.range.result (c.range.ensures.in_range tt).1 (c.range.ensures.in_range tt).2 c.in_ok-place.place.now c.next.new.self
    c.in_ok-place.ensures.steps c.if-place-archive.true

pub returns-clause-there : goal.returns-clause-there
returns-clause-there c =
    entry_there c.args.self.now c.args.archive c.range.result (c.range.ensures.in_range tt).1 (c.range.ensures.in_range tt).2 c.in_ok-place.place.now c.next.new.self
    c.in_ok-place.ensures.steps c.if-place-archive.false

pub returns-clause-least : goal.returns-clause-least
returns-clause-least c =
    entry_least c.args.self.now c.args.archive c.range.result (c.range.ensures.in_range tt).1 (c.range.ensures.in_range tt).2 c.in_ok-place.place.now c.next.new.self
    c.in_ok-place.ensures.steps c.if-place-archive.false

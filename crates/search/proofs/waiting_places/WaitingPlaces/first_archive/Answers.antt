use Rattle.search.proofs.PlaceLaws.{archive_behind, none_between, none_from}
use Rattle.search.proofs.waiting_places.WaitingPlaces.first_archive.Goals as goal

pub returns-in_err-place-clause-none : goal.returns-in_err-place-clause-none
returns-in_err-place-clause-none c =
    rw c.from_residual.ensures (none_from c.args.self.now c.args.from c.range.result (c.range.ensures.in_range tt).5 c.in_err-place.ensures.steps.0)

pub returns-clause-behind : goal.returns-clause-behind
returns-clause-behind c =
    archive_behind c.args.self.now c.args.from c.range.result (c.range.ensures.in_range tt).1 (c.range.ensures.in_range tt).2 c.in_ok-place.place.now c.next.new.self
    c.in_ok-place.ensures.steps

pub returns-clause-least : goal.returns-clause-least
returns-clause-least c =
    none_between c.args.self.now c.args.from c.range.result (c.range.ensures.in_range tt).1 (c.range.ensures.in_range tt).2 c.in_ok-place.place.now c.next.new.self
    c.in_ok-place.ensures.steps

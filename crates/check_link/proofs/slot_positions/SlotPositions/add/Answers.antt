use Rattle.std.proofs.Common.{◌∙◌, ap, not, sym, ℕ, Option}
use Rattle.std.specs.Prelude.{is_some}
use Rattle.check_link.specs.Slots.{request_view}
use Rattle.check_link.proofs.PositionSteps.{kinds_kept, numbered_added, other_added, place_is}
use Rattle.check_link.proofs.slot_positions.SlotPositions.add.Goals as goal

pub returns-in_ok-numbered-in-Some-clause-positions : goal.returns-in_ok-numbered-in-Some-clause-positions
returns-in_ok-numbered-in-Some-clause-positions c = λ names is.
    numbered_added names c.args.self.now c.add_at.new.self (request_view c.args.request) c.args.position c.in-Some.number (sym is ∙ c.in-Some.is)
    c.in_ok-numbered-in-Some.ensures.positions c.in_ok-numbered-in-Some.ensures.others

pub returns-in_ok-numbered-in-Some-clause-fresh : goal.returns-in_ok-numbered-in-Some-clause-fresh
returns-in_ok-numbered-in-Some-clause-fresh c = λ names is.
    c.in_ok-numbered-in-Some.ensures.fresh
    ∙ ap (λ (o : Option ℕ). not (is_some o)) (place_is names c.args.self.now (request_view c.args.request) _ (sym c.in-Some.is ∙ is))

pub returns-in_ok-other-in-None-clause-positions : goal.returns-in_ok-other-in-None-clause-positions
returns-in_ok-other-in-None-clause-positions c = λ names is.
    other_added names c.args.self.now _ (request_view c.args.request) c.args.position (sym is ∙ c.in-None.is) (kinds_kept c.args.self.now c.add_other.new.table)
    c.in_ok-other-in-None.ensures.positions

pub returns-in_ok-other-in-None-clause-fresh : goal.returns-in_ok-other-in-None-clause-fresh
returns-in_ok-other-in-None-clause-fresh c = λ names is.
    c.in_ok-other-in-None.ensures.fresh
    ∙ ap (λ (o : Option ℕ). not (is_some o)) (place_is names c.args.self.now (request_view c.args.request) _ (sym c.in-None.is ∙ is))

use Rattle.std.proofs.Common.{◌∙◌, ap}
use Rattle.check_link.specs.Slots.{Slots, line_of, request_view}
use Rattle.check_link.proofs.PositionSteps.{place_is}
use Rattle.check_link.proofs.slots.SlotTable.position.Goals as goal

pub returns : goal.returns
returns c =
    let t = c.self.inside in
    let q = request_view c.args.request.now in
    c.get.ensures
    ∙ (place_is t.numbering.names.now t.positions q _ c.number_for.ensures ∙ (c.self.invariant.index q ∙ ap (λ (v : Slots). line_of v.rows q) c.self.view_is))

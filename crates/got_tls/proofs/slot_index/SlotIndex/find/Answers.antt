use Rattle.std.proofs.Common.{ap, ◌∙◌}
use Rattle.std.specs.Prelude.{position}
use Rattle.elf_model.specs.Link.Slots.{same_request}
use Rattle.got_tls.specs.Views.{Listed, slot_view}
use Rattle.got_tls.proofs.Keys.{position_same}
use Rattle.got_tls.proofs.slot_index.SlotIndex.find.Goals as goal

pub returns : goal.returns
returns c =
    c.get_index_of.ensures.index
    ∙ (position_same c.args.slot.now c.self.inside.slots.keys ∙ ap (λ (x : Listed). position (same_request (slot_view c.args.slot.now)) x.slots) c.self.view_is)

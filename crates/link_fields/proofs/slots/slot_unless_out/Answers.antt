use Rattle.check_load.specs.KeptRelocations.{relocation_at}
use Rattle.check_load.specs.Views.{loaded_view}
use Rattle.link_fields.proofs.SlotSteps.{asks_if_kept}
use Rattle.link_fields.proofs.slots.slot_unless_out.Goals as goal

pub returns : goal.returns
returns c =
    asks_if_kept c.args.parts.now c.args.taken.now (relocation_at c.args.number (loaded_view c.args.loaded.now) c.args.relocation.now)
    c.slot_of.result c.args.drops.now c.has.result c.has.ensures c.if-has.false c.slot_of.ensures

use Rattle.got_tls.proofs.SlotPlaces.{wrapped}
use Rattle.got_tls.proofs.slot_table.offset_at.Goals as goal

pub returns : goal.returns
returns c = wrapped c.args.position

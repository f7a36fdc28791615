use Rattle.std.proofs.Common.{◌∙◌, List, ap, sym}
use Rattle.std.specs.Prelude.{slice_get}
use Rattle.std.specs.Option.{option_map_or}
use Rattle.elf_model.specs.Image.MapRecord.{SlotRow}
use Rattle.check_link.proofs.SlotLines.{line_address, no_address}
use Rattle.check_relocs.specs.KnownSlots.{request_here, rows_here}
use Rattle.check_relocs.proofs.slots.found_address.Goals as goal

pub returns-in-Some : goal.returns-in-Some
returns-in-Some c =
    let h = c.args.here.now in
    let q = request_here h c.args.j c.args.thread in
    c.address_at.ensures
    ∙ (ap (λ (rows : List SlotRow). option_map_or (λ row. row.address) (slice_get rows c.in-Some.position) 0) c.slots.ensures.rows
    ∙ line_address (rows_here h) q c.in-Some.position (sym c.position_at.ensures ∙ c.in-Some.is))

pub returns-in-None : goal.returns-in-None
returns-in-None c =
    let h = c.args.here.now in
    no_address (rows_here h) (request_here h c.args.j c.args.thread) (sym c.position_at.ensures ∙ c.in-None.is)

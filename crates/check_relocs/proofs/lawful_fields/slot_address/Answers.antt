use Rattle.std.proofs.Common.{◌∙◌, List, Option, ap, sym}
use Rattle.std.specs.Option.{option_map_or}
use Rattle.std.specs.Prelude.{option_map}
use Rattle.elf_model.specs.Image.MapRecord.{SlotRow}
use Rattle.elf_model.specs.Link.Slots.{Request, requested_address}
use Rattle.check_link.specs.Slots.{request_view}
use Rattle.check_relocs.proofs.lawful_fields.slot_address.Goals as goal

pub returns-in-Some : goal.returns-in-Some
returns-in-Some c = λ section.
    c.address.ensures
    ∙ ap (λ (rows : List SlotRow). requested_address rows (request_view c.in-Some.request)) c.slots.ensures.rows
    ∙ ap (λ (o : Option Request). option_map_or (requested_address c.args.bindings.now.places.slots) o 0)
    (sym (ap (option_map request_view) c.in-Some.is) ∙ c.request_of.ensures section)

pub returns-in-None : goal.returns-in-None
returns-in-None c = λ section.
    ap (λ (o : Option Request). option_map_or (requested_address c.args.bindings.now.places.slots) o 0)
    (sym (ap (option_map request_view) c.in-None.is) ∙ c.request_of.ensures section)

use Rattle.std.proofs.Common.{◌∙◌, List, ap, subst, sym}
use Rattle.std.specs.List.{list_any}
use Rattle.elf_model.specs.Image.MapRecord.{SlotRow}
use Rattle.elf_model.specs.Link.Slots.{is_slot_of}
use Rattle.check_link.specs.Slots.{request_view}
use Rattle.check_relocs.specs.Bindings.{Bound}
use Rattle.check_relocs.specs.Referrers.{entry_here}
use Rattle.input_names.specs.RelocationPlaces.{IsRelocationAt}
use Rattle.explain_check.proofs.memory.no_slot.Goals as goal

pub returns : goal.returns
returns c =
    let here = c.in_ok-here.here in
    let p = c.in_ok-place.place in
    let q = c.in_ok-request.request in
    let r = entry_here here p.section p.entry in record {
      r = r;
      at = subst (λ (b : Bound). IsRelocationAt b.objects p r) (c.in_ok-here.ensures.bindings ∙ c.bindings.ensures) c.in_ok-place.ensures;
      asks = sym (c.in_ok-request.ensures p.section);
      none = ap (λ (rows : List SlotRow). list_any (is_slot_of (request_view q)) rows) (sym c.slots.ensures) ∙ sym c.has.ensures ∙ c.if-has.false;
    }

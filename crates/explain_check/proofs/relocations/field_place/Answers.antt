use Rattle.std.proofs.Common.{◌∙◌, subst}
use Rattle.elf_model.proofs.RelocationFields.{field_has}
use Rattle.check_relocs.specs.Bindings.{Bound}
use Rattle.check_relocs.specs.Referrers.{entry_here}
use Rattle.input_names.specs.RelocationPlaces.{IsRelocationAt}
use Rattle.explain_check.proofs.relocations.field_place.Goals as goal

pub returns : goal.returns
returns c =
    let here = c.in_ok-here.here in
    let p = c.in_ok-place.place in
    let r = entry_here here p.section p.entry in
    let over = c.is_over.ensures.0 c.if-not-is_over.false in record {
      r = r;
      at = subst (λ (b : Bound). IsRelocationAt b.objects p r) (c.in_ok-here.ensures.bindings ∙ c.bindings.ensures) c.in_ok-place.ensures;
      over = field_has c.args.object c.args.section c.args.k r c.in_ok-here.ensures.number c.if-place-section.false over.0 over.1;
    }

use Rattle.std.proofs.Common.{◌-◌, ◌∙◌, ℕ, ap}
use Rattle.elf_model.specs.Link.Placement.{got_start}
use Rattle.check_relocs.proofs.lawful_fields.link_terms.Goals as goal

pub returns-clause-slot : goal.returns-clause-slot
returns-clause-slot c = λ section.
    c.terms_with_slot.ensures.slot
    ∙ ap (λ (a : ℕ). a - got_start c.args.bindings.now.places.got) (c.slot_address-address.ensures section)

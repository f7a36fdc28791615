use Rattle.std.proofs.Common.{◌-◌, ◌∙◌, ℕ, ap, subst, sym}
use Rattle.std.specs.Prelude.{Option, SomeIff}
use Rattle.elf_model.specs.Link.Placement.{got_start}
use Rattle.elf_model.specs.Link.Relocation.{Kind, relocation_of}
use Rattle.elf_model.specs.Link.Slots.{slot_address}
use Rattle.check_relocs.specs.Bindings.{IsTargetOf}
use Rattle.check_relocs.specs.Fields.{IsRight, field_of}
use Rattle.check_relocs.specs.LawfulFields.{IsRightWith, field_with}
use Rattle.check_relocs.specs.Referrers.{object_here, symbol_here}
use Rattle.check_relocs.proofs.FittingLemmas.{field_is, right, right_with, some_iff}
use Rattle.check_relocs.proofs.lawful_fields.right_field_of.Goals as goal

pub returns-clause-field : goal.returns-clause-field
returns-clause-field c =
    let h = c.args.here.now in
    let b = h.bindings.now in
    let n = h.number in
    let o = object_here h in
    let to = c.args.to.now in
    let e = c.args.relocation.now.entry in
    let t = c.own_target_at-target.result in
    let m = subst (λ (j : ℕ). IsTargetOf b (symbol_here h j) t) c.symbol-j.ensures c.own_target_at-target.ensures.target in
    let g = c.terms_with_slot-given.result in
    let slot =
    c.terms_with_slot-given.ensures.slot
    ∙ ap (λ (a : ℕ). a - got_start b.places.got)
    (c.slot_at-address.ensures.address ∙ ap (λ (k : ℕ). slot_address b.places.slots (relocation_of n o k e)) (sym c.requires.section)) in
    let got = c.terms_with_slot-given.ensures.got in
    let pointer = c.terms_with_slot-given.ensures.pointer in
    let is = c.requires.to in
    let found = subst (λ (k : Option Kind). SomeIff c.field_with.result (IsRightWith k t to g e) (field_with k t to g e)) (sym c.requires.kind) c.field_with.ensures in
    subst
    (λ (k : ℕ). SomeIff c.field_with.result (IsRight b.objects b.places (relocation_of n o k e)) (field_of b.objects b.places (relocation_of n o k e)))
    c.requires.section
    (some_iff _ _ _ _ c.field_with.result (right b n o to g e t m is.size is.frames is.address slot got pointer)
    (right_with b n o to g e t m is.size is.frames is.address slot got pointer)
    (field_is b n o to g e t m is.size is.frames is.address slot got pointer) found)

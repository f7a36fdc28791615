use Rattle.std.proofs.Common.{ℕ, subst, sym}
use Rattle.std.specs.Global.{Vec}
use Rattle.std.specs.Prelude.{◌↔◌, Any, Contains}
use Rattle.std.proofs.lemmas.Result.{IfOk-weaker}
use Rattle.elf_model.specs.Link.Relocation.{relocations}
use Rattle.link_fields.proofs.ForeignFields.{some_slot}
use Rattle.link_fields.specs.Parts.{Parts}
use Rattle.link_fields.specs.Slots.{AreSlots, AsksSlotUnlessOut}
use Rattle.link_fields.proofs.slots.slots_of.Goals as goal

pub returns : goal.returns
returns c = λ l parts drops are.
    let p = c.args.parts.now in
    let taken = c.args.taken.now in
    let ds = c.args.drops.now in
    IfOk-weaker c.all_slots.result (λ (v : Vec ℕ). (at : ℕ) → Contains v.items at ↔ Any (AsksSlotUnlessOut p taken ds at) (relocations p.objects))
    (λ v. AreSlots l v.items)
    (λ v told. record {
      slots_are = λ at.
          let here =
          subst (λ (q : Parts). Contains v.items at ↔ Any (AsksSlotUnlessOut q taken ds at) (relocations q.objects)) (sym parts) (told at) in
          let both = some_slot l taken are ds drops at in
          (λ there. both.0 (here.0 there), λ some. here.1 (both.1 some));
    })
    c.all_slots.ensures

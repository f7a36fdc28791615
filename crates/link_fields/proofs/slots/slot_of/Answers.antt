use Rattle.std.proofs.Common.{◌≡◌, ◌==◌, ◌∙◌, List, ℕ, Some, ap, subst}
use Rattle.std.specs.Prelude.{◌↔◌, find}
use Rattle.check_load.specs.KeptRelocations.{relocation_at}
use Rattle.check_load.specs.Views.{loaded_view}
use Rattle.elf_model.specs.Link.Relocation.{Kind}
use Rattle.field_judge.specs.Given.{AsksSlotAt, IsGiven}
use Rattle.field_judge.specs.Kinds.{kind_view}
use Rattle.judge_model.specs.Fields.{foreign_kinds}
use Rattle.link_fields.specs.Parts.{Parts, given}
use Rattle.link_fields.proofs.SlotSteps.{asks_by}
use Rattle.link_fields.proofs.slots.slot_of.Goals as goal

pub returns-in-Some : goal.returns-in-Some
returns-in-Some c =
    let p = c.args.parts.now in
    let taken = c.args.taken.now in
    let r = relocation_at c.args.number (loaded_view c.args.loaded.now) c.args.relocation.now in
    let g = given p r in
    let k = kind_view c.in-Some.kind in
    let image = ap (λ (q : Parts). q.image) c.parts.view_is in
    let told =
    subst
    (λ (i : List ℕ). IsGiven i c.asked_of-asked.result g → (at : ℕ) → (c.asked_slot.result ≡ Some at) ↔ AsksSlotAt i taken g k at) image
    (λ given at. c.asked_slot.ensures g at given) c.asked_of-asked.ensures in
    asks_by p taken r c.asked_slot.result k
    (c.in-Some.ensures.kind ∙ ap (λ (n : ℕ). find (λ (j : Kind). j.number == n) foreign_kinds) c.kind.ensures) told

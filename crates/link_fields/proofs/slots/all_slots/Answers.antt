use Rattle.std.proofs.Common.{◌+◌, ◌%◌, ◌^◌, ◌∙◌, List, ℕ, ap, subst}
use Rattle.std.specs.Prelude.{Any, Contains}
use Rattle.check_load.specs.Views.{loaded_view}
use Rattle.elf_model.proofs.FlatRelocations.{left_of_objects, object_end}
use Rattle.elf_model.proofs.Listed.{Contains-nil}
use Rattle.elf_model.specs.Link.Relocation.{relocations, relocations_from}
use Rattle.field_judge.specs.Given.{pointer_of}
use Rattle.link_fields.proofs.Lists.{object_read}
use Rattle.link_fields.proofs.SlotSteps.{parts_more, seen_all, seen_none}
use Rattle.link_fields.specs.Parts.{Parts}
use Rattle.link_fields.specs.Slots.{AsksSlotUnlessOut}
use Rattle.link_fields.proofs.slots.all_slots.Goals as goal

pub loop-k-init : goal.loop-k-init
loop-k-init c = λ at.
    let p = c.args.parts.now in
    let none = Contains c.new-slots.result.items at in
    seen_none (AsksSlotUnlessOut p c.args.taken.now c.args.drops.now at) none none none
    (left_of_objects loaded_view c.objects-objects.result.now 0) (relocations p.objects)
    (λ there. Contains-nil at (subst (λ (xs : List ℕ). Contains xs at) c.new-slots.ensures.items there))
    (ap relocations (c.objects-objects.ensures ∙ ap (λ (q : Parts). q.objects) c.parts.view_is))

pub add_slots-requires : goal.add_slots-requires
add_slots-requires c = c.thread_pointer-pointer.ensures ∙ ap (λ (q : Parts). pointer_of q.image % 2 ^ 64) c.parts.view_is

pub loop-k-preserved : goal.loop-k-preserved
loop-k-preserved c = λ at.
    let p = c.args.parts.now in
    let P = AsksSlotUnlessOut p c.args.taken.now c.args.drops.now at in
    let xs = c.objects-objects.result.now in
    let k = c.loop-k.k in
    let x = c.index-objects-k.result in
    parts_more P (Contains c.loop-k.slots.items at) (Contains c.add_slots.new.slots.items at) (Any P (relocations p.objects))
    (left_of_objects loaded_view xs k) (relocations_from k (loaded_view x)) (left_of_objects loaded_view xs (k + 1))
    (object_read xs k x c.loop-k-test.true c.index-objects-k.is) (c.in_ok-add_slots.ensures at) (c.loop-k.invariant at)

pub returns : goal.returns
returns c = λ at.
    let p = c.args.parts.now in
    let P = AsksSlotUnlessOut p c.args.taken.now c.args.drops.now at in
    let xs = c.objects-objects.result.now in
    let now = Contains c.loop-k.slots.items at in
    seen_all P now now (Any P (relocations p.objects)) (left_of_objects loaded_view xs c.loop-k.k)
    (object_end loaded_view xs c.loop-k.k c.loop-k-test.false) (c.loop-k.invariant at)

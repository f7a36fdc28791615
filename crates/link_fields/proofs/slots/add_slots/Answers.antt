use Rattle.std.proofs.Common.{◌≡◌, ◌⊎◌, Some, ap, map, ◌∙◌}
use Rattle.std.specs.Prelude.{Any, Contains}
use Rattle.check_load.specs.KeptRelocations.{relocation_at}
use Rattle.check_load.specs.Views.{loaded_view}
use Rattle.elf_model.specs.Link.Relocation.{relocations_from}
use Rattle.link_fields.proofs.SlotSteps.{seen_all, seen_from, seen_more}
use Rattle.link_fields.specs.Slots.{AsksSlotUnlessOut}
use Rattle.link_fields.proofs.slots.add_slots.Goals as goal

pub loop-relocation-init : goal.loop-relocation-init
loop-relocation-init c = λ at.
    let of = relocation_at c.args.number (loaded_view c.args.loaded.now) in
    let old = Contains c.args.slots.now.items at in
    seen_from (AsksSlotUnlessOut c.args.parts.now c.args.taken.now c.args.drops.now at) old old old
    (map of c.into_iter-relocation-iterator.result) (relocations_from c.args.number (loaded_view c.args.loaded.now))
    (ap (map of) c.into_iter-relocation-iterator.ensures.into_iter_gives ∙ c.relocations-relocation-items.ensures.relocations c.args.number)

pub loop-relocation-preserved : goal.loop-relocation-preserved
loop-relocation-preserved c = λ at.
    let of = relocation_at c.args.number (loaded_view c.args.loaded.now) in
    let P = AsksSlotUnlessOut c.args.parts.now c.args.taken.now c.args.drops.now at in
    seen_more P (Contains c.loop-relocation.slots.items at) (Contains c.add_slot.new.slots.items at)
    (Contains c.args.slots.now.items at ⊎ Any P (relocations_from c.args.number (loaded_view c.args.loaded.now)))
    (c.slot_unless_out-slot.result ≡ Some at) (of c.in-Some.relocation) (map of c.loop-relocation.relocation-iterator) (map of c.next.new.self)
    (ap (map of) c.in-Some.ensures.steps) (c.in_ok-add_slot.ensures at) (c.slot_unless_out-slot.ensures at) (c.loop-relocation.invariant at)

pub returns : goal.returns
returns c = λ at.
    let of = relocation_at c.args.number (loaded_view c.args.loaded.now) in
    let P = AsksSlotUnlessOut c.args.parts.now c.args.taken.now c.args.drops.now at in
    let now = Contains c.loop-relocation.slots.items at in
    seen_all P now now (Contains c.args.slots.now.items at ⊎ Any P (relocations_from c.args.number (loaded_view c.args.loaded.now)))
    (map of c.loop-relocation.relocation-iterator) (ap (map of) c.in-None.ensures.steps.0) (c.loop-relocation.invariant at)

use Rattle.std.proofs.Common.{ℕ, ◌⊎◌, map}
use Rattle.std.specs.Prelude.{◌↔◌, Any, Contains}
use Rattle.check_load.specs.KeptRelocations.{relocation_at}
use Rattle.check_load.specs.Views.{loaded_view}
use Rattle.elf_model.specs.Link.Relocation.{relocations_from}
use Rattle.link_fields.specs.Slots.{AsksSlotUnlessOut}
use Rattle.link_fields.proofs.slots.add_slots.Given as goal

abbrev pub invariant-loop-relocation : goal.invariant-loop-relocation
invariant-loop-relocation l =
    (at : ℕ) →
    (Contains l.slots.items at
    ⊎ Any (AsksSlotUnlessOut l.parts l.taken l.drops at) (map (relocation_at l.number (loaded_view l.loaded)) l.relocation-iterator))
    ↔ (Contains l.fn.slots.items at
    ⊎ Any (AsksSlotUnlessOut l.parts l.taken l.drops at) (relocations_from l.number (loaded_view l.loaded)))

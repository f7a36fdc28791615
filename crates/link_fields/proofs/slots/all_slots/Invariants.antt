use Rattle.std.proofs.Common.{ℕ, ◌⊎◌}
use Rattle.std.specs.Prelude.{◌↔◌, Any, Contains}
use Rattle.check_load.specs.Views.{loaded_view}
use Rattle.elf_model.proofs.FlatRelocations.{left_of_objects}
use Rattle.elf_model.specs.Link.Relocation.{relocations}
use Rattle.link_fields.specs.Slots.{AsksSlotUnlessOut}
use Rattle.link_fields.proofs.slots.all_slots.Given as goal

abbrev pub invariant-loop-k : goal.invariant-loop-k
invariant-loop-k l =
    (at : ℕ) →
    (Contains l.slots.items at ⊎ Any (AsksSlotUnlessOut l.parts l.taken l.drops at) (left_of_objects loaded_view l.objects l.k))
    ↔ Any (AsksSlotUnlessOut l.parts l.taken l.drops at) (relocations l.parts.objects)

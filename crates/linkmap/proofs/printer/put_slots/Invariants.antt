use Rattle.std.proofs.Common.{◌≡◌, ◌++◌, take}
use Rattle.std.specs.Prelude.{All}
use Rattle.std.specs.List.{flat_map}
use Rattle.elf_model.specs.Image.MapRecord.{slot_row}
use Rattle.elf_model.specs.Image.MapText.{slot_text, FitsSlot}
use Rattle.linkmap.proofs.printer.put_slots.Given as goal

abbrev pub invariant-loop-s : goal.invariant-loop-s
invariant-loop-s l = record {
  text : l.out.items ≡ l.initial.out.items ++ flat_map (λ s. slot_text (slot_row s)) (take l.s-index l.slots);
  fits : All (λ s. FitsSlot (slot_row s)) (take l.s-index l.slots);
}

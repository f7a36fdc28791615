use Rattle.std.proofs.Common.{arith}
use Rattle.std.proofs.lemmas.Grind.{common_steps}
use Rattle.elf_model.specs.Image.MapRecord.{slot_row}
use Rattle.elf_model.specs.Image.MapText.{FitsSlot}
use Rattle.linkmap.proofs.PrintLaws.{all_more}
use Rattle.linkmap.proofs.printer.put_slots.Goals as goal

pub loop-s-preserved : goal.loop-s-preserved
loop-s-preserved c = record {
  text = grind (arith, common_steps);
  fits = all_more (λ s. FitsSlot (slot_row s)) c.args.slots.now c.loop-s.s-index c.s-item.result (omega arith) c.s-item.is c.loop-s.invariant.fits c.in_ok-put_slot.ensures.fits;
}

use Rattle.std.proofs.Common.{arith}
use Rattle.std.proofs.lemmas.Grind.{common_steps}
use Rattle.elf_model.specs.Image.MapRecord.{object_row}
use Rattle.elf_model.specs.Image.MapText.{FitsObject}
use Rattle.linkmap.proofs.PrintLaws.{all_more}
use Rattle.linkmap.proofs.printer.put_objects.Goals as goal

pub loop-o-preserved : goal.loop-o-preserved
loop-o-preserved c = record {
  text = grind (arith, common_steps);
  fits = all_more (λ o. FitsObject (object_row o)) c.args.objects.now c.loop-o.o-index c.o-item.result (omega arith) c.o-item.is c.loop-o.invariant.fits c.in_ok-put_object.ensures.fits;
}

use Rattle.std.proofs.Common.{arith}
use Rattle.std.proofs.lemmas.Grind.{common_steps}
use Rattle.elf_model.specs.Image.MapRecord.{place_row}
use Rattle.elf_model.specs.Image.MapText.{FitsPlace}
use Rattle.linkmap.proofs.PrintLaws.{all_more}
use Rattle.linkmap.proofs.printer.put_places.Goals as goal

pub loop-p-preserved : goal.loop-p-preserved
loop-p-preserved c = record {
  text = grind (arith, common_steps);
  fits = all_more (λ p. FitsPlace (place_row p)) c.args.places.now c.loop-p.p-index c.p-item.result (omega arith) c.p-item.is c.loop-p.invariant.fits c.in_ok-put_place.ensures.fits;
}

use Rattle.std.proofs.Common.{arith}
use Rattle.std.proofs.lemmas.Grind.{common_steps}
use Rattle.elf_model.specs.Image.MapRecord.{common_row}
use Rattle.elf_model.specs.Image.MapText.{FitsCommon}
use Rattle.linkmap.proofs.PrintLaws.{all_more}
use Rattle.linkmap.proofs.printer.put_commons.Goals as goal

pub loop-c-preserved : goal.loop-c-preserved
loop-c-preserved c = record {
  text = grind (arith, common_steps);
  fits = all_more (λ c. FitsCommon (common_row c)) c.args.commons.now c.loop-c.c-index c.c-item.result (omega arith) c.c-item.is c.loop-c.invariant.fits c.in_ok-put_common.ensures.fits;
}

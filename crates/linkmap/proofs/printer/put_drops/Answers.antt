use Rattle.std.proofs.Common.{arith}
use Rattle.std.proofs.lemmas.Grind.{common_steps}
use Rattle.std.proofs.lemmas.List.Elements.{All-more}
use Rattle.elf_model.specs.Image.MapText.{FitsDrop}
use Rattle.linkmap.proofs.printer.put_drops.Goals as goal

pub loop-d-preserved : goal.loop-d-preserved
loop-d-preserved c = record {
  text = grind (arith, common_steps);
  fits = All-more FitsDrop c.args.drops.now c.loop-d.d-index (record { object = 0; section = 0 }) (omega arith) c.loop-d.invariant.fits c.in_ok-put_drop.ensures.fits;
}

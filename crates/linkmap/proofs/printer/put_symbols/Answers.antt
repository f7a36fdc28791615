use Rattle.std.proofs.Common.{arith}
use Rattle.std.proofs.lemmas.Grind.{common_steps}
use Rattle.elf_model.specs.Image.MapRecord.{symbol_row}
use Rattle.elf_model.specs.Image.MapText.{FitsSymbol}
use Rattle.linkmap.proofs.PrintLaws.{all_more}
use Rattle.linkmap.proofs.printer.put_symbols.Goals as goal

pub loop-s-preserved : goal.loop-s-preserved
loop-s-preserved c = record {
  text = grind (arith, common_steps);
  fits = all_more (λ s. FitsSymbol (symbol_row s)) c.args.symbols.now c.loop-s.s-index c.s-item.result (omega arith) c.s-item.is c.loop-s.invariant.fits c.in_ok-put_symbol.ensures.fits;
}

use Rattle.std.proofs.Common.{◌≡◌, ◌++◌, take}
use Rattle.std.specs.Prelude.{All}
use Rattle.std.specs.List.{flat_map}
use Rattle.elf_model.specs.Image.MapRecord.{symbol_row}
use Rattle.elf_model.specs.Image.MapText.{symbol_text, FitsSymbol}
use Rattle.linkmap.proofs.printer.put_symbols.Given as goal

abbrev pub invariant-loop-s : goal.invariant-loop-s
invariant-loop-s l = record {
  text : l.out.items ≡ l.initial.out.items ++ flat_map (λ s. symbol_text (symbol_row s)) (take l.s-index l.symbols);
  fits : All (λ s. FitsSymbol (symbol_row s)) (take l.s-index l.symbols);
}

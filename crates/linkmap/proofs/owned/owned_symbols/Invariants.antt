use Rattle.std.proofs.Common.{◌≡◌, ◌++◌, map}
use Rattle.elf_model.specs.Image.MapRecord.{symbol_row}
use Rattle.linkmap.proofs.owned.owned_symbols.Given as goal

abbrev pub invariant-loop-line : goal.invariant-loop-line
invariant-loop-line l = map symbol_row l.owned.items ++ l.line-iterator ≡ l.lines.rows

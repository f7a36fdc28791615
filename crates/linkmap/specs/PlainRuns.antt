-- Symbol lines that are read again, as they are kept: each is there, and what is behind them and the last of them is known.
use Rattle.std.specs.Prelude.{◌-◌, ◌≡◌, List, length, option_map, slice_get}
use Rattle.elf_model.specs.Image.MapRecord.{SymbolRow}
use Rattle.linkmap.specs.Borrowed.{symbol_row}
use Rattle.linkmap.specs.SymbolRuns.{behind, lines_in}
use Rattle.linkmap.specs.declared.plain_run.PlainRun.{PlainRun}

abbrev pub rows_of : PlainRun → List SymbolRow
rows_of r = lines_in r.count r.text.now

pub record IsRun (r : PlainRun) : Type 0 where
  pub counted : length (rows_of r) ≡ r.count
  pub behind_are : behind r.count r.text.now ≡ r.rest.now
  pub last_is : option_map symbol_row r.last ≡ slice_get (rows_of r) (r.count - 1)

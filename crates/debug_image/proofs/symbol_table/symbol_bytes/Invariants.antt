use Rattle.std.proofs.Common.{◌≡◌, ◌++◌, drop, length}
use Rattle.debug_image.specs.Tables.{entries_from, row_names, strtab, symtab}
use Rattle.debug_image.specs.Views.{row_views}
use Rattle.debug_image.proofs.symbol_table.symbol_bytes.Given as goal

abbrev pub invariant-loop-row : goal.invariant-loop-row
invariant-loop-row l = record {
  symbols :
      l.symbols.items ++ entries_from (length l.names.items) (row_views (drop l.row-index l.rows)) ≡ symtab (row_views l.rows);
  names : l.names.items ++ row_names (row_views (drop l.row-index l.rows)) ≡ strtab (row_views l.rows);
}

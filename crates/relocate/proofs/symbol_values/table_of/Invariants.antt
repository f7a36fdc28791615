use Rattle.std.proofs.Common.{◌≡◌, length}
use Rattle.search.specs.Views.{loaded_view}
use Rattle.relocate.specs.SymbolTables.{AreValues}
use Rattle.relocate.specs.Values.{where_in}
use Rattle.relocate.proofs.symbol_values.table_of.Given as goal

abbrev pub invariant-loop-j : goal.invariant-loop-j
invariant-loop-j l = record {
  count : length l.table.items ≡ l.j;
  each : AreValues l.resolved (where_in l.placement) l.number (loaded_view l.loaded) l.table.items;
}

use Rattle.std.proofs.Common.{◌≡◌, length}
use Rattle.relocate.specs.SymbolTables.{AreChosenValues}
use Rattle.relocate.specs.Values.{where_in}
use Rattle.relocate.proofs.symbol_values.all_chosen.Given as goal

abbrev pub invariant-loop-i : goal.invariant-loop-i
invariant-loop-i l = record {
  count : length l.values.items ≡ l.i;
  each : AreChosenValues l.resolved (where_in l.placement) l.values.items;
}

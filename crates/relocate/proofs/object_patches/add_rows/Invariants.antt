use Rattle.std.proofs.Common.{ℕ, ◌+◌, ◌-◌, ◌<◌, ◌≤◌, drop, get_or, length, take}
use Rattle.relocate.proofs.Fitted.{LeavesToFit}
use Rattle.search.specs.KeptLists.{relocations_of_relas}
use Rattle.relocate.specs.RelaOrders.{target_of}
use Rattle.relocate.specs.ObjectRows.{HasRows}
use Rattle.relocate.specs.SymbolTables.{all_valued, valued_object, where_of}
use Rattle.search.specs.declared.kept_lists.KeptRela.{KeptRela}
use Rattle.relocate.proofs.object_patches.add_rows.Given as goal

abbrev pub invariant-rows : goal.invariant-rows
invariant-rows l = record {
  rows : HasRows (all_valued l.valued) (where_of l.valued) (relocations_of_relas l.valued.number (valued_object l.valued) (take l.from l.relas)) l.rows;
  later : (k : ℕ) (d : KeptRela) → l.from ≤ k → k < length l.relas → length l.rows.begins.items ≤ target_of (get_or l.relas k d) + 1;
  leaves :
      LeavesToFit (all_valued l.valued) (where_of l.valued) (relocations_of_relas l.valued.number (valued_object l.valued) l.relas)
      (relocations_of_relas l.valued.number (valued_object l.valued) (drop l.from l.relas));
}

abbrev pub decreases-rows : goal.decreases-rows
decreases-rows l = length l.relas - l.from

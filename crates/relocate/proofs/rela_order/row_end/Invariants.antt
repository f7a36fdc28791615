use Rattle.std.proofs.Common.{◌≡◌, ℕ, ◌-◌, ◌<◌, ◌≤◌, get_or, length}
use Rattle.relocate.specs.RelaOrders.{target_of}
use Rattle.search.specs.declared.kept_lists.KeptRela.{KeptRela}
use Rattle.relocate.proofs.rela_order.row_end.Given as goal

abbrev pub invariant-same : goal.invariant-same
invariant-same l = record {
  some : l.from < l.end;
  within : l.end ≤ length l.relas;
  same : (k : ℕ) (d : KeptRela) → l.from ≤ k → k < l.end → target_of (get_or l.relas k d) ≡ target_of (get_or l.relas l.from d);
}

abbrev pub decreases-same : goal.decreases-same
decreases-same l = length l.relas - l.end

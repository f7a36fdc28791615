use Rattle.std.proofs.Common.{◌≡◌, ◌++◌, drop}
use Rattle.search.specs.KeptLists.{kept_behind, kept_in, relas_behind, relas_in}
use Rattle.search.proofs.kept_lists.kept_lists.Given as goal

abbrev pub invariant-loop-i : goal.invariant-loop-i
invariant-loop-i l = record {
  sections : l.lists.sections.items ++ kept_behind l.dropped l.i (drop l.i l.headers) ≡ kept_in l.object l.dropped;
  relas : l.lists.relas.items ++ relas_behind l.object l.dropped l.i (drop l.i l.headers) ≡ relas_in l.object l.dropped;
}

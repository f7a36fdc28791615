use Rattle.std.specs.BTreeMap.{get}
use Rattle.check_link.specs.OutputSections.{section_order}
use Rattle.check_link.specs.Views.{placed_views}
use Rattle.run_judge.specs.Pairs.{AreLasts, ArePairsBelow}
use Rattle.run_judge.proofs.pairs.pairs_in.Given as goal

abbrev pub invariant-loop-at : goal.invariant-loop-at
invariant-loop-at l = record {
  lasts_are : AreLasts (placed_views l.ordered) l.at (get section_order l.lasts);
  pairs_are : ArePairsBelow (placed_views l.ordered) l.at l.pairs.items;
}

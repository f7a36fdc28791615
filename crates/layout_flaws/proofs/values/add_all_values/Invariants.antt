use Rattle.std.proofs.Common.{List, drop}
use Rattle.relocate.specs.Values.{where_in}
use Rattle.search.specs.Views.{loaded_views}
use Rattle.flaws.specs.Flaws.{AreAdded}
use Rattle.wrong_references.specs.Entries.{entries, entries_of}
use Rattle.layout_flaws.specs.LayoutFlaws.{AddsUnfit}
use Rattle.layout_flaws.specs.declared.flaw.LayoutFlaw.{LayoutFlaw}
use Rattle.layout_flaws.proofs.values.add_all_values.Given as goal

abbrev pub invariant-loop-k : goal.invariant-loop-k
invariant-loop-k l =
    (end : List LayoutFlaw) → AreAdded (AddsUnfit l.laid.resolved.now (where_in l.laid.placement.now)) (entries_of l.k (drop l.k (loaded_views l.objects))) l.flaws.items end
    → AreAdded (AddsUnfit l.laid.resolved.now (where_in l.laid.placement.now)) (entries (loaded_views l.objects)) l.fn.flaws.items end

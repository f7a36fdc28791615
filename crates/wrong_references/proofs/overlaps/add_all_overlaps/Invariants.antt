use Rattle.std.proofs.Common.{List, drop}
use Rattle.search.specs.Views.{loaded_views}
use Rattle.flaws.specs.Flaws.{AreAdded}
use Rattle.wrong_references.specs.Overlaps.{AddsOverlaps, numbered}
use Rattle.wrong_references.specs.declared.flaw.ReferenceFlaw.{ReferenceFlaw}
use Rattle.wrong_references.proofs.overlaps.add_all_overlaps.Given as goal

abbrev pub invariant-loop-k : goal.invariant-loop-k
invariant-loop-k l =
    (end : List ReferenceFlaw) → AreAdded AddsOverlaps (numbered l.k (drop l.k (loaded_views l.objects))) l.flaws.items end
    → AreAdded AddsOverlaps (numbered 0 (loaded_views l.objects)) l.fn.flaws.items end

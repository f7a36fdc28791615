use Rattle.std.proofs.Common.{List, drop}
use Rattle.search.specs.KeptLists.{pieces_at}
use Rattle.search.specs.Views.{loaded_view}
use Rattle.flaws.specs.Flaws.{AreAdded}
use Rattle.layout_flaws.specs.LayoutFlaws.{AddsLarge}
use Rattle.layout_flaws.specs.declared.flaw.LayoutFlaw.{LayoutFlaw}
use Rattle.layout_flaws.proofs.sections.add_sections.Given as goal

abbrev pub invariant-loop-section : goal.invariant-loop-section
invariant-loop-section l =
    (end : List LayoutFlaw) → AreAdded (AddsLarge l.base) (pieces_at l.object (loaded_view l.one) (drop l.section-index l.sections)) l.flaws.items end
    → AreAdded (AddsLarge l.base) (pieces_at l.object (loaded_view l.one) l.sections) l.fn.flaws.items end

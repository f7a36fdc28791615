use Rattle.std.proofs.Common.{List, drop}
use Rattle.search.specs.KeptLists.{pieces_at}
use Rattle.search.specs.Views.{loaded_view}
use Rattle.flaws.specs.Flaws.{AddsSection, AreAdded}
use Rattle.flaws.specs.declared.flaw.Flaw.{Flaw}
use Rattle.flaws.proofs.section_flaws.add_sections.Given as goal

abbrev pub invariant-loop-section : goal.invariant-loop-section
invariant-loop-section l =
    (end : List Flaw) → AreAdded AddsSection (pieces_at l.object (loaded_view l.one) (drop l.section-index l.sections)) l.flaws.items end
    → AreAdded AddsSection (pieces_at l.object (loaded_view l.one) l.sections) l.fn.flaws.items end

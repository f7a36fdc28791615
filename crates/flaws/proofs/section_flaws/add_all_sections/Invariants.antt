use Rattle.std.proofs.Common.{List, drop}
use Rattle.elf_model.specs.Link.Pieces.{kept_sections, pieces_of}
use Rattle.search.specs.Views.{loaded_views}
use Rattle.flaws.specs.Flaws.{AddsSection, AreAdded}
use Rattle.flaws.specs.declared.flaw.Flaw.{Flaw}
use Rattle.flaws.proofs.section_flaws.add_all_sections.Given as goal

abbrev pub invariant-loop-k : goal.invariant-loop-k
invariant-loop-k l =
    (end : List Flaw) → AreAdded AddsSection (pieces_of l.k (drop l.k (loaded_views l.objects))) l.flaws.items end
    → AreAdded AddsSection (kept_sections (loaded_views l.objects)) l.fn.flaws.items end

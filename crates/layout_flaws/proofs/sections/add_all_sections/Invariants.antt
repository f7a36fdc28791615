use Rattle.std.proofs.Common.{List, drop}
use Rattle.elf_model.specs.Link.Pieces.{kept_sections, pieces_of}
use Rattle.search.specs.Views.{loaded_views}
use Rattle.flaws.specs.Flaws.{AreAdded}
use Rattle.layout_flaws.specs.LayoutFlaws.{AddsLarge}
use Rattle.layout_flaws.specs.declared.flaw.LayoutFlaw.{LayoutFlaw}
use Rattle.layout_flaws.proofs.sections.add_all_sections.Given as goal

abbrev pub invariant-loop-k : goal.invariant-loop-k
invariant-loop-k l =
    (end : List LayoutFlaw) → AreAdded (AddsLarge l.base) (pieces_of l.k (drop l.k (loaded_views l.objects))) l.flaws.items end
    → AreAdded (AddsLarge l.base) (kept_sections (loaded_views l.objects)) l.fn.flaws.items end

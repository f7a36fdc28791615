use Rattle.std.proofs.Common.{List, drop}
use Rattle.relocate.specs.SymbolTables.{all_valued, valued_object, where_of}
use Rattle.flaws.specs.Flaws.{AreAdded}
use Rattle.wrong_references.specs.Entries.{entries_of_relas}
use Rattle.layout_flaws.specs.LayoutFlaws.{AddsUnfit}
use Rattle.layout_flaws.specs.declared.flaw.LayoutFlaw.{LayoutFlaw}
use Rattle.layout_flaws.proofs.values.add_relas.Given as goal

abbrev pub invariant-loop-rela : goal.invariant-loop-rela
invariant-loop-rela l =
    (end : List LayoutFlaw) → AreAdded (AddsUnfit (all_valued l.valued) (where_of l.valued)) (entries_of_relas l.valued.number (valued_object l.valued) (drop l.rela-index l.relas)) l.flaws.items end
    → AreAdded (AddsUnfit (all_valued l.valued) (where_of l.valued)) (entries_of_relas l.valued.number (valued_object l.valued) l.relas) l.fn.flaws.items end

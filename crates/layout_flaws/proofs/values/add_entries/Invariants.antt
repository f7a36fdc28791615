use Rattle.std.proofs.Common.{List, drop}
use Rattle.relocate.specs.SymbolTables.{all_valued, valued_object, where_of}
use Rattle.flaws.specs.Flaws.{AreAdded}
use Rattle.wrong_references.specs.Entries.{entries_in}
use Rattle.layout_flaws.specs.LayoutFlaws.{AddsUnfit}
use Rattle.layout_flaws.specs.declared.flaw.LayoutFlaw.{LayoutFlaw}
use Rattle.layout_flaws.proofs.values.add_entries.Given as goal

abbrev pub invariant-loop-number : goal.invariant-loop-number
invariant-loop-number l =
    (end : List LayoutFlaw) → AreAdded (AddsUnfit (all_valued l.valued) (where_of l.valued)) (entries_in l.valued.number (valued_object l.valued) l.rela l.number (drop l.number l.run)) l.flaws.items end
    → AreAdded (AddsUnfit (all_valued l.valued) (where_of l.valued)) (entries_in l.valued.number (valued_object l.valued) l.rela 0 l.run) l.fn.flaws.items end

use Rattle.std.proofs.Common.{List, drop}
use Rattle.std.specs.Prelude.{map}
use Rattle.command.specs.Views.{item_of, texts_of}
use Rattle.flaws.specs.Flaws.{AreAdded}
use Rattle.opening.specs.Held.{all_files}
use Rattle.item_flaws.specs.ItemFlaws.{AddsMissing, numbered}
use Rattle.item_flaws.specs.declared.flaw.ItemFlaw.{ItemFlaw}
use Rattle.item_flaws.proofs.missing.add_items.Given as goal

abbrev pub invariant-loop-i : goal.invariant-loop-i
invariant-loop-i l =
    (end : List ItemFlaw) → AreAdded (AddsMissing (all_files l.files) (texts_of l.directories)) (numbered l.i (map item_of (drop l.i l.items))) l.flaws.items end
    → AreAdded (AddsMissing (all_files l.files) (texts_of l.directories)) (numbered 0 (map item_of l.items)) l.fn.flaws.items end

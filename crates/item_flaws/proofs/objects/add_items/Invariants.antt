use Rattle.std.proofs.Common.{List, drop}
use Rattle.std.specs.Prelude.{map}
use Rattle.command.specs.Views.{item_of, texts_of}
use Rattle.elf_model.specs.Inputs.Opening.{opened_from}
use Rattle.flaws.specs.Flaws.{AreAdded}
use Rattle.opening.specs.Held.{all_files}
use Rattle.item_flaws.specs.ItemFlaws.{AddsUnreadable}
use Rattle.item_flaws.specs.declared.flaw.ItemFlaw.{ItemFlaw}
use Rattle.item_flaws.proofs.objects.add_items.Given as goal

abbrev pub invariant-loop-i : goal.invariant-loop-i
invariant-loop-i l =
    (end : List ItemFlaw) → AreAdded (AddsUnreadable l.stop) (opened_from (all_files l.files) (texts_of l.directories) l.i (map item_of (drop l.i l.items))) l.flaws.items end
    → AreAdded (AddsUnreadable l.stop) (opened_from (all_files l.files) (texts_of l.directories) 0 (map item_of l.items)) l.fn.flaws.items end

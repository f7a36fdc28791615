use Rattle.std.proofs.Common.{◌≡◌, ◌++◌, drop, map}
use Rattle.std.specs.Prelude.{◌↔◌, All}
use Rattle.command.specs.Views.{item_of, texts_of}
use Rattle.elf_model.specs.Inputs.Opening.{HasFile, opened_from}
use Rattle.opening.specs.Held.{IsSearchedOrWhole, all_files}
use Rattle.opening.specs.Opened.{HasWholeObject, item_view}
use Rattle.opening.proofs.opened_items.open_items.Given as goal

abbrev pub invariant-loop-i : goal.invariant-loop-i
invariant-loop-i l = record {
  items :
      map item_view l.opened.items ++ opened_from (all_files l.files) (texts_of l.directories) l.i (map item_of (drop l.i l.items))
      ≡ opened_from (all_files l.files) (texts_of l.directories) 0 (map item_of l.items);
  objects : All (IsSearchedOrWhole l.files.parts (texts_of l.directories)) (map item_of l.items) → All HasWholeObject l.opened.items;
  files : All (HasFile (all_files l.files) (texts_of l.directories)) (map item_of l.items) ↔ All (HasFile (all_files l.files) (texts_of l.directories)) (map item_of (drop l.i l.items));
}

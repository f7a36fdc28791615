use Rattle.std.proofs.Common.{◌≡◌, ◌++◌, drop, map}
use Rattle.elf_model.specs.Inputs.Opening.{AreArchives, HaveIndexes}
use Rattle.opening.specs.Opened.{item_view}
use Rattle.opening.proofs.archives.read_inputs.Given as goal

abbrev pub invariant-loop-item : goal.invariant-loop-item
invariant-loop-item l = record {
  exact : l.inputs.items ++ map item_view (drop l.item-index l.items) ≡ map item_view l.items;
  archives : AreArchives l.inputs.items;
  indexes : HaveIndexes l.inputs.items;
}

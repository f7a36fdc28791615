use Rattle.std.proofs.Common.{◌≡◌, ◌++◌, take}
use Rattle.std.specs.Prelude.{All}
use Rattle.std.specs.List.{flat_map}
use Rattle.elf_model.specs.Image.MapText.{drop_text, FitsDrop}
use Rattle.linkmap.proofs.printer.put_drops.Given as goal

abbrev pub invariant-loop-d : goal.invariant-loop-d
invariant-loop-d l = record {
  text : l.out.items ≡ l.initial.out.items ++ flat_map drop_text (take l.d-index l.drops);
  fits : All FitsDrop (take l.d-index l.drops);
}

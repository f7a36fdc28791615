use Rattle.std.proofs.Common.{◌≡◌, ◌++◌, take}
use Rattle.std.specs.Prelude.{All}
use Rattle.std.specs.List.{flat_map}
use Rattle.elf_model.specs.Image.MapRecord.{object_row}
use Rattle.elf_model.specs.Image.MapText.{object_text, FitsObject}
use Rattle.linkmap.proofs.printer.put_objects.Given as goal

abbrev pub invariant-loop-o : goal.invariant-loop-o
invariant-loop-o l = record {
  text : l.out.items ≡ l.initial.out.items ++ flat_map (λ o. object_text (object_row o)) (take l.o-index l.objects);
  fits : All (λ o. FitsObject (object_row o)) (take l.o-index l.objects);
}

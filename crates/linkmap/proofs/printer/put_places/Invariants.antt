use Rattle.std.proofs.Common.{◌≡◌, ◌++◌, take}
use Rattle.std.specs.Prelude.{All}
use Rattle.std.specs.List.{flat_map}
use Rattle.elf_model.specs.Image.MapRecord.{place_row}
use Rattle.elf_model.specs.Image.MapText.{place_text, FitsPlace}
use Rattle.linkmap.proofs.printer.put_places.Given as goal

abbrev pub invariant-loop-p : goal.invariant-loop-p
invariant-loop-p l = record {
  text : l.out.items ≡ l.initial.out.items ++ flat_map (λ p. place_text (place_row p)) (take l.p-index l.places);
  fits : All (λ p. FitsPlace (place_row p)) (take l.p-index l.places);
}

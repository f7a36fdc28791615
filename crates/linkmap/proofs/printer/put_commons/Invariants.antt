use Rattle.std.proofs.Common.{◌≡◌, ◌++◌, take}
use Rattle.std.specs.Prelude.{All}
use Rattle.std.specs.List.{flat_map}
use Rattle.elf_model.specs.Image.MapRecord.{common_row}
use Rattle.elf_model.specs.Image.MapText.{common_text, FitsCommon}
use Rattle.linkmap.proofs.printer.put_commons.Given as goal

abbrev pub invariant-loop-c : goal.invariant-loop-c
invariant-loop-c l = record {
  text : l.out.items ≡ l.initial.out.items ++ flat_map (λ c. common_text (common_row c)) (take l.c-index l.commons);
  fits : All (λ c. FitsCommon (common_row c)) (take l.c-index l.commons);
}

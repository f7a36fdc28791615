use Rattle.std.proofs.Common.{◌≡◌}
use Rattle.std.specs.Prelude.{map}
use Rattle.std.specs.List.{range_with_len}
use Rattle.elf_model.specs.Image.MemoryImage.{program_header_at}
use Rattle.foreign_image.proofs.image.table_of.Given as goal

abbrev pub invariant-loop-i : goal.invariant-loop-i
invariant-loop-i l = l.headers.items ≡ map (program_header_at l.file) (range_with_len 0 l.i)

use Rattle.std.proofs.Common.{◌≡◌, ◌++◌, drop}
use Rattle.elf_model.specs.Image.MemoryImage.{loads_in}
use Rattle.foreign_image.proofs.image.loads_of.Given as goal

abbrev pub invariant-loop-header : goal.invariant-loop-header
invariant-loop-header l = l.segments.items ++ loads_in (drop l.header-index l.headers) ≡ loads_in l.headers

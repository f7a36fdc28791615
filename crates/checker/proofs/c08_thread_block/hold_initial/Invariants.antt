use Rattle.std.proofs.Common.{drop}
use Rattle.std.specs.Prelude.{All}
use Rattle.elf_model.specs.Image.MemoryImage.{loads}
use Rattle.elf_model.specs.Image.RightLink.{HoldsInitial}
use Rattle.elf_model.proofs.Rests.{Left}
use Rattle.checker.proofs.c08_thread_block.hold_initial.Given as goal

abbrev pub invariant-loop-header : goal.invariant-loop-header
invariant-loop-header l =
    Left (All (HoldsInitial (loads l.memory)) l.headers) (All (HoldsInitial (loads l.memory)) (drop l.header-index l.headers))

use Rattle.std.proofs.Common.{◌≡◌, drop}
use Rattle.elf_model.proofs.Rests.{Left}
use Rattle.check_places.proofs.c03_sections.drops.are_drops.Given as goal

abbrev pub invariant-loop-k : goal.invariant-loop-k
invariant-loop-k l = Left (l.lines ≡ l.drops) (drop l.k l.lines ≡ drop l.k l.drops)

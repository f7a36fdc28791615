use Rattle.std.proofs.Common.{◌≡◌, ◌<◌, ℕ, false}
use Rattle.elf_model.specs.Link.UsedNames.{is_linker_use}
use Rattle.check_relocs.specs.Referrers.{objects_here, symbol_here}
use Rattle.check_relocs.proofs.linker_uses.has_use.Given as goal

abbrev pub invariant-loop-j : goal.invariant-loop-j
invariant-loop-j l = (j : ℕ) → j < l.j → is_linker_use (objects_here l.here) (symbol_here l.here j) ≡ false

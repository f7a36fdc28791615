use Rattle.std.proofs.Common.{drop}
use Rattle.std.specs.List.{All}
use Rattle.elf_model.proofs.Rests.{Left}
use Rattle.check_link.specs.Soundness.{IsSoundEntry}
use Rattle.check_link.proofs.commons.all_sound.Given as goal

abbrev pub invariant-loop-j : goal.invariant-loop-j
invariant-loop-j l = Left (All IsSoundEntry l.entries) (All IsSoundEntry (drop l.j l.entries))

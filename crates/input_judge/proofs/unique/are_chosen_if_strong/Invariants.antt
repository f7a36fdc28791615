use Rattle.std.proofs.Common.{drop}
use Rattle.std.specs.Prelude.{All}
use Rattle.input_judge.specs.Unique.{IsChosenIfStrong}
use Rattle.elf_model.proofs.Rests.{Left}
use Rattle.input_judge.proofs.unique.are_chosen_if_strong.Given as goal

abbrev pub invariant-loop-position : goal.invariant-loop-position
invariant-loop-position l =
    Left (All (IsChosenIfStrong l.names) l.definitions) (All (IsChosenIfStrong l.names) (drop l.position l.definitions))

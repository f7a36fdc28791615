use Rattle.std.proofs.Common.{drop}
use Rattle.std.specs.Prelude.{All}
use Rattle.check_load.specs.Views.{loaded_view}
use Rattle.elf_model.proofs.Rests.{Left}
use Rattle.keep_judge.specs.Collected.{IsWholeIn}
use Rattle.keep_judge.proofs.groups.are_groups_whole.Given as goal

abbrev pub invariant-loop-group : goal.invariant-loop-group
invariant-loop-group l =
    Left (All (IsWholeIn l.drops l.number (loaded_view l.loaded)) l.groups) (All (IsWholeIn l.drops l.number (loaded_view l.loaded)) (drop l.group-index l.groups))

use Rattle.std.proofs.Common.{map}
use Rattle.std.specs.Prelude.{All}
use Rattle.check_load.specs.KeptRelocations.{relocation_at}
use Rattle.check_load.specs.Views.{loaded_view}
use Rattle.elf_model.proofs.Rests.{Left}
use Rattle.elf_model.specs.Link.Relocation.{relocations_from}
use Rattle.keep_judge.specs.Collected.{IsBoundKept, has_name}
use Rattle.keep_judge.proofs.asked_bounds.are_marked_kept.Given as goal

abbrev pub invariant-loop-relocation : goal.invariant-loop-relocation
invariant-loop-relocation l =
    Left (All (IsBoundKept l.names l.drops (has_name l.lost)) (relocations_from l.number (loaded_view l.loaded)))
    (All (IsBoundKept l.names l.drops (has_name l.lost)) (map (relocation_at l.number (loaded_view l.loaded)) l.relocation-iterator))

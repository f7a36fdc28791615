use Rattle.std.proofs.Common.{◌≡◌, map}
use Rattle.std.specs.List.{list_any}
use Rattle.check_load.specs.KeptRelocations.{relocation_at}
use Rattle.check_load.specs.Views.{loaded_view}
use Rattle.elf_model.specs.Link.Relocation.{relocations_from}
use Rattle.link_judge.specs.Rewritten.{is_shared_thread_in}
use Rattle.link_judge.proofs.rewrites.has_shared.Given as goal

abbrev pub invariant-loop-relocation : goal.invariant-loop-relocation
invariant-loop-relocation l =
    list_any (is_shared_thread_in l.drops) (map (relocation_at l.number (loaded_view l.loaded)) l.relocation-iterator)
    ≡ list_any (is_shared_thread_in l.drops) (relocations_from l.number (loaded_view l.loaded))

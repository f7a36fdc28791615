use Rattle.std.proofs.Common.{◌≡◌, ◌++◌, map}
use Rattle.std.specs.List.{flat_map}
use Rattle.check_load.specs.KeptRelocations.{relocation_at}
use Rattle.check_load.specs.Views.{loaded_view}
use Rattle.elf_model.specs.Link.Relocation.{relocations_from}
use Rattle.input_judge.specs.Apart.{bytes_of_field}
use Rattle.input_judge.proofs.fields_apart.fields_of.Given as goal

abbrev pub invariant-loop-relocation : goal.invariant-loop-relocation
invariant-loop-relocation l =
    l.fields.items ++ flat_map (bytes_of_field l.drops) (map (relocation_at l.number (loaded_view l.loaded)) l.relocation-iterator)
    ≡ flat_map (bytes_of_field l.drops) (relocations_from l.number (loaded_view l.loaded))

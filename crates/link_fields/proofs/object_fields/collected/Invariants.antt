use Rattle.std.proofs.Common.{◌≡◌, ◌++◌, map}
use Rattle.check_load.specs.KeptRelocations.{relocation_at}
use Rattle.check_load.specs.Views.{loaded_view}
use Rattle.elf_model.specs.Link.Relocation.{relocations_from}
use Rattle.link_fields.specs.Fields.{field_of}
use Rattle.link_fields.proofs.object_fields.collected.Given as goal

abbrev pub invariant-loop-relocation : goal.invariant-loop-relocation
invariant-loop-relocation l =
    l.row.items ++ map field_of (map (relocation_at l.number (loaded_view l.loaded)) l.relocation-iterator)
    ≡ map field_of (relocations_from l.number (loaded_view l.loaded))

use Rattle.std.proofs.Common.{map}
use Rattle.std.specs.Prelude.{All}
use Rattle.check_load.specs.KeptRelocations.{relocation_at}
use Rattle.check_load.specs.Views.{loaded_view}
use Rattle.elf_model.proofs.Rests.{Left}
use Rattle.elf_model.specs.Link.Relocation.{relocations_from}
use Rattle.link_fields.proofs.Lists.{Within}
use Rattle.link_fields.specs.Parts.{IsFieldRightUnlessOut}
use Rattle.link_fields.proofs.relocations.wrong_own.Given as goal

abbrev pub invariant-loop-relocation : goal.invariant-loop-relocation
invariant-loop-relocation l =
    Left (All (IsFieldRightUnlessOut l.parts l.taken l.drops) (relocations_from l.number (loaded_view l.loaded)))
    (All (IsFieldRightUnlessOut l.parts l.taken l.drops) (map (relocation_at l.number (loaded_view l.loaded)) l.relocation-iterator))
    × Within (map (relocation_at l.number (loaded_view l.loaded)) l.relocation-iterator) (relocations_from l.number (loaded_view l.loaded))

use Rattle.std.proofs.Common.{◌≡◌, List, Some, map}
use Rattle.std.specs.Prelude.{All}
use Rattle.std.specs.List.{slice_get}
use Rattle.check_load.specs.KeptRelocations.{relocation_at}
use Rattle.check_load.specs.Views.{loaded_view}
use Rattle.elf_model.proofs.Rests.{Left}
use Rattle.elf_model.specs.Link.Loading.{LoadedObject}
use Rattle.elf_model.specs.Link.Relocation.{relocations_from}
use Rattle.input_judge.specs.WholeCode.{IsWholeUnlessOut}
use Rattle.input_judge.proofs.whole_code.have_whole.Given as goal

abbrev pub invariant-loop-relocation : goal.invariant-loop-relocation
invariant-loop-relocation l =
    (objects : List LoadedObject) → slice_get objects l.number ≡ Some (loaded_view l.loaded) →
    Left (All (IsWholeUnlessOut objects l.drops) (relocations_from l.number (loaded_view l.loaded)))
    (All (IsWholeUnlessOut objects l.drops) (map (relocation_at l.number (loaded_view l.loaded)) l.relocation-iterator))

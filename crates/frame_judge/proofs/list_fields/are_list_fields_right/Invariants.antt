use Rattle.std.specs.Prelude.{All}
use Rattle.check_load.specs.Views.{loaded_view}
use Rattle.elf_model.proofs.FlatRelocations.{left_of_objects}
use Rattle.elf_model.proofs.Rests.{Left}
use Rattle.elf_model.specs.Link.Relocation.{relocations}
use Rattle.frame_judge.specs.Held.{IsRightUnlessOut}
use Rattle.frame_judge.proofs.list_fields.are_list_fields_right.Given as goal

abbrev pub invariant-loop-k : goal.invariant-loop-k
invariant-loop-k l =
    Left (All (IsRightUnlessOut l.parts l.taken l.framed l.lines l.drops) (relocations l.parts.objects))
    (All (IsRightUnlessOut l.parts l.taken l.framed l.lines l.drops) (left_of_objects loaded_view l.objects l.k))

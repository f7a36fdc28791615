use Rattle.std.specs.Prelude.{All}
use Rattle.check_load.specs.Views.{loaded_view, loaded_views}
use Rattle.elf_model.proofs.FlatRelocations.{left_of_objects}
use Rattle.elf_model.proofs.Rests.{Left}
use Rattle.elf_model.specs.Link.Relocation.{relocations}
use Rattle.frame_judge.specs.Plain.{IsPlainUnlessOut}
use Rattle.frame_judge.proofs.plain_relocations.are_all_plain.Given as goal

abbrev pub invariant-loop-k : goal.invariant-loop-k
invariant-loop-k l =
    Left (All (IsPlainUnlessOut l.framed l.drops) (relocations (loaded_views l.objects))) (All (IsPlainUnlessOut l.framed l.drops) (left_of_objects loaded_view l.objects l.k))

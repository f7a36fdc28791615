use Rattle.std.specs.Prelude.{All}
use Rattle.check_load.specs.Views.{loaded_view, loaded_views}
use Rattle.elf_model.proofs.FlatRelocations.{left_of_objects}
use Rattle.elf_model.proofs.Rests.{Left}
use Rattle.elf_model.specs.Link.Relocation.{relocations}
use Rattle.input_judge.specs.WholeCode.{IsWholeUnlessOut}
use Rattle.input_judge.proofs.whole_code.are_all_whole.Given as goal

abbrev pub invariant-loop-k : goal.invariant-loop-k
invariant-loop-k l =
    Left (All (IsWholeUnlessOut (loaded_views l.objects) l.drops) (relocations (loaded_views l.objects)))
    (All (IsWholeUnlessOut (loaded_views l.objects) l.drops) (left_of_objects loaded_view l.objects l.k))

use Rattle.std.specs.Prelude.{AllPairs, filter}
use Rattle.check_load.specs.Views.{loaded_view, loaded_views}
use Rattle.elf_model.proofs.FlatRelocations.{left_of_objects}
use Rattle.elf_model.proofs.Rests.{Left}
use Rattle.elf_model.specs.Link.Relocation.{relocations}
use Rattle.judge_model.specs.Fields.{AreFieldsApart}
use Rattle.input_judge.specs.Apart.{is_in_image}
use Rattle.input_judge.proofs.fields_apart.are_all_apart.Given as goal

abbrev pub invariant-loop-k : goal.invariant-loop-k
invariant-loop-k l =
    Left (AllPairs AreFieldsApart (filter (is_in_image l.drops) (relocations (loaded_views l.objects))))
    (AllPairs AreFieldsApart (filter (is_in_image l.drops) (left_of_objects loaded_view l.objects l.k)))

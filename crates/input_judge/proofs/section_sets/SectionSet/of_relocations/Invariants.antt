use Rattle.std.proofs.Common.{◌≡◌, ◌||◌, ℕ}
use Rattle.std.specs.List.{list_any}
use Rattle.check_load.specs.Views.{loaded_view, loaded_views}
use Rattle.elf_model.proofs.FlatRelocations.{left_of_objects}
use Rattle.elf_model.specs.Link.Relocation.{relocations}
use Rattle.input_judge.specs.SectionSets.{has_section, is_in}
use Rattle.input_judge.proofs.section_sets.SectionSet.of_relocations.Given as goal

abbrev pub invariant-loop-k : goal.invariant-loop-k
invariant-loop-k l =
    (o n : ℕ) → (list_any (is_in o n) (left_of_objects loaded_view l.objects l.k) || has_section l.set o n)
    ≡ list_any (is_in o n) (relocations (loaded_views l.objects))

use Rattle.std.proofs.Common.{◌≡◌, ◌||◌, ℕ, map}
use Rattle.std.specs.List.{list_any}
use Rattle.check_load.specs.KeptRelocations.{relocation_at}
use Rattle.check_load.specs.Views.{loaded_view}
use Rattle.elf_model.specs.Link.Relocation.{relocations_from}
use Rattle.input_judge.specs.SectionSets.{has_section, is_in}
use Rattle.input_judge.proofs.section_sets.add_relocated.Given as goal

abbrev pub invariant-loop-relocation : goal.invariant-loop-relocation
invariant-loop-relocation l =
    (o n : ℕ) → (list_any (is_in o n) (map (relocation_at l.number (loaded_view l.loaded)) l.relocation-iterator) || has_section l.set o n)
    ≡ (list_any (is_in o n) (relocations_from l.number (loaded_view l.loaded)) || has_section l.fn.set o n)

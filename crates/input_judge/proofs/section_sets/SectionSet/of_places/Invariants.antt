use Rattle.std.proofs.Common.{◌≡◌, ◌||◌, ℕ, drop, map}
use Rattle.elf_model.specs.Image.MapRecord.{place_row}
use Rattle.judge_model.specs.Certificates.{has_place}
use Rattle.input_judge.specs.SectionSets.{has_section}
use Rattle.input_judge.proofs.section_sets.SectionSet.of_places.Given as goal

abbrev pub invariant-loop-place : goal.invariant-loop-place
invariant-loop-place l =
    (o n : ℕ) → (has_place (map place_row (drop l.place-index l.places)) o n || has_section l.set o n) ≡ has_place (map place_row l.places) o n

-- Sets of sections, one more at a time.
use Rattle.std.proofs.Common.{◌≡◌, ◌||◌, ℕ, true}
use Rattle.std.specs.BTreeSet.{Updates}
use Rattle.check_load.proofs.AwakeLaws.{woken}
use Rattle.check_load.specs.Awake.{is_awake, is_place, place_key}
use Rattle.input_judge.specs.SectionSets.{has_section}
use Rattle.input_judge.specs.declared.section_sets.SectionSet.{SectionSet}

pub added : (old new : SectionSet) (section : ℕ × ℕ) → Updates place_key old.sections new.sections section true → (o n : ℕ) →
    has_section new o n ≡ (is_place o n section || has_section old o n)
unfolding has_section is_awake
added old new section updates o n = woken (record { places = old.sections }) (record { places = new.sections }) section updates o n

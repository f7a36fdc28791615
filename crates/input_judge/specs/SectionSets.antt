-- Sets of sections.
use Rattle.std.specs.Prelude.{ℕ, ◌==◌, ◌&&◌, Bool}
use Rattle.std.specs.BTreeSet.{contains}
use Rattle.check_load.specs.Awake.{place_key}
use Rattle.elf_model.specs.Link.Relocation.{Relocation}
use Rattle.input_judge.specs.declared.section_sets.SectionSet.{SectionSet}

unfoldable pub has_section : SectionSet → ℕ → ℕ → Bool
has_section s object section = contains place_key s.sections (object, section)

-- a relocation changes a section
abbrev pub is_in : ℕ → ℕ → Relocation → Bool
is_in object section r = r.object == object && r.section == section

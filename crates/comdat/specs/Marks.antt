-- Marks at numbers, as the definitions have them, and what groups mark.
use Rattle.std.specs.Prelude.{◌&&◌, Bool, List, ℕ, if◌then◌else◌}
use Rattle.elf_model.specs.Link.Groups.{is_comdat, is_seen}
use Rattle.elf_model.specs.Inputs.ObjectFile.{Group}
pub use Rattle.elf_model.specs.Marks.{AreUnmarked, is_marked, marked, marked_numbers}

-- the marks after a group: those of its members are set where it is dropped
abbrev pub marks_after : List (List ℕ) → List Bool → Group → List Bool
marks_after seen marks g = if is_comdat g && is_seen seen g.signature then marked marks g.members else marks

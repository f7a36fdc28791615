-- Sections that linkers edit in a way that isn't judged, by what has lines and what relocations change.
use Rattle.std.specs.Prelude.{ℕ, ◌&&◌, ◌||◌, Bool, not}
use Rattle.elf_model.specs.Link.Pieces.{Piece}
use Rattle.judge_model.specs.Links.{is_mergeable}
use Rattle.judge_model.specs.RightForeign.{is_of_constants}

abbrev pub is_unmergeable_by : (ℕ → ℕ → Bool) → Piece → Bool
is_unmergeable_by relocated p = is_mergeable p && (relocated p.object p.section || not (is_of_constants p))

abbrev pub is_edited_by : (ℕ → ℕ → Bool) → (ℕ → ℕ → Bool) → Piece → Bool
is_edited_by placed relocated p = not (placed p.object p.section) && is_unmergeable_by relocated p

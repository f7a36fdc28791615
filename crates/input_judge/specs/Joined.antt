-- Property notes, by what has lines.
use Rattle.std.specs.Prelude.{◌≡◌, ℕ, Bool, false, true}
use Rattle.elf_model.specs.Link.Pieces.{Piece}
use Rattle.judge_model.specs.Links.{is_property}

abbrev pub IsJoinedBy : (ℕ → ℕ → Bool) → Piece → Type 0
IsJoinedBy placed p = is_property p ≡ true → placed p.object p.section ≡ false

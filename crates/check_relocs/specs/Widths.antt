-- The widths of fields.
use Rattle.std.specs.Prelude.{◌≡◌, ◌⊎◌, ℕ}

-- the width of a field in bytes
abbrev pub IsWidth : ℕ → Type 0
IsWidth w = (w ≡ 1) ⊎ (w ≡ 2) ⊎ (w ≡ 4) ⊎ (w ≡ 8)

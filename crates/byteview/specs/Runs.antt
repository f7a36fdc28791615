-- Runs of one byte.
use Rattle.std.specs.Prelude.{◌≡◌, ◌<◌, ℕ, List, length, slice_index}

-- every byte is x
abbrev pub IsAll : ℕ → List ℕ → Type 0
IsAll x bytes = (k : ℕ) → k < length bytes → slice_index bytes k ≡ x

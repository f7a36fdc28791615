-- Runs of bytes that are the same between places.
use Rattle.std.specs.Prelude.{◌≡◌, ◌<◌, ◌≤◌, ℕ, List, slice_index}

-- from one place on and below another
abbrev pub AreSame : List ℕ → List ℕ → ℕ → ℕ → Type 0
AreSame xs ys from to = (k : ℕ) → from ≤ k → k < to → slice_index xs k ≡ slice_index ys k

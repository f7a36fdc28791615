-- Fields beside bytes.
use Rattle.std.specs.Prelude.{◌<◌, ◌≤◌, ℕ}
use Rattle.memory_judge.specs.Rests.{IsIn}
use Rattle.memory_judge.specs.declared.rests.FieldSpan.{FieldSpan}

-- a field has no byte from one on and below another
abbrev pub IsApart : ℕ → ℕ → FieldSpan → Type 0
IsApart from to s = (k : ℕ) → from ≤ k → k < to → ¬ IsIn k s

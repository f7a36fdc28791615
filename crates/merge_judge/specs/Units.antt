-- The two ends of a string.
use Rattle.std.specs.Prelude.{◌≡◌, ◌⊎◌, ℕ, suc, ◌+◌, ◌-◌, ◌*◌, ◌%◌, ◌<◌, List}
use Rattle.judge_model.specs.Merged.{IsZeroUnit}

pub record BeginsString (bytes : List ℕ) (e offset : ℕ) : Type 0 where
  pub unit : offset % e ≡ 0
  pub first : (offset ≡ 0) ⊎ IsZeroUnit bytes e (offset - e)

pub record EndsString (bytes : List ℕ) (e offset size : ℕ) : Type 0 where
  pub some : 0 < size
  pub units : size % e ≡ 0
  pub last : IsZeroUnit bytes e (offset + size - e)
  pub whole : (j : ℕ) → suc j * e < size → ¬ IsZeroUnit bytes e (offset + j * e)

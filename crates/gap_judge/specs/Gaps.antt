-- The gaps between spans, and stretches of addresses that nothing explains.
use Rattle.std.specs.Prelude.{◌≡◌, ◌⊎◌, ℕ, ◌-◌, ◌<◌, ◌≤◌, List, [], ◌∷◌, max, min}
use Rattle.memory_judge.specs.Spans.{with_span}
use Rattle.memory_judge.specs.declared.spans.Span.{Span}

-- what spans that rise leave of the addresses from one on and below another
abbrev pub gaps : ℕ → ℕ → List Span → List Span
gaps from top [] = with_span from top []
gaps from top (s ∷ ss) = with_span from (min s.from top) (gaps (max from s.to) top ss)

-- addresses of which none is explained, as far as they go between two
pub record IsGapBetween (Explained : ℕ → Type 0) (low top from to : ℕ) : Type 0 where
  pub some : from < to
  pub inside : (low ≤ from) × (to ≤ top)
  pub gap : (a : ℕ) → from ≤ a → a < to → ¬ Explained a
  pub first : (low ≡ from) ⊎ Explained (from - 1)
  pub last : (to ≡ top) ⊎ Explained to

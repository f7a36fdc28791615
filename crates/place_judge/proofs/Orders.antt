-- The order of lines is that of their rows.
use Rattle.std.proofs.Common.{◌≡◌, ℕ, ◌+◌, ◌<◌, List, [], ◌∷◌, length, get_or, map, sym, subst, arith}
use Rattle.std.specs.Prelude.{◌↔◌}
use Rattle.std.proofs.lemmas.List.{get_or-map, length-map}
use Rattle.elf_model.specs.Image.MapText.{Ascends}

module _ {X Y : Type 0} (R : Y → Y → Type 0) (f : X → Y) where
  to_rows : (xs : List X) → Ascends (λ p q. R (f p) (f q)) xs → Ascends R (map f xs)
  to_rows [] up k d low = absurd (omega (arith, low))
  to_rows (x ∷ xs) up k d low =
      let below : k + 1 < length (x ∷ xs) = let n = length-map (x ∷ xs) f in omega (arith, low, n) in
      let first = get_or-map f (x ∷ xs) k x d (omega (arith, below)) in
      let second = get_or-map f (x ∷ xs) (k + 1) x d below in
      rw first (rw second (up k x below))

  from_rows : (xs : List X) → Ascends R (map f xs) → Ascends (λ p q. R (f p) (f q)) xs
  from_rows xs up k d below =
      let low : k + 1 < length (map f xs) = let n = length-map xs f in omega (arith, below, n) in
      let first = get_or-map f xs k d (f d) (omega (arith, below)) in
      let second = get_or-map f xs (k + 1) d (f d) below in
      subst (λ (y : Y). R y (f (get_or xs (k + 1) d))) first (subst (λ (y : Y). R (get_or (map f xs) k (f d)) y) second (up k (f d) low))

  pub rows_rise : (xs : List X) → Ascends (λ p q. R (f p) (f q)) xs ↔ Ascends R (map f xs)
  rows_rise xs = (to_rows xs, from_rows xs)

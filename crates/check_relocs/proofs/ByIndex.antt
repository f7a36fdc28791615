-- What holds of each element by its number, with one more element.
use Rattle.std.proofs.Common.{◌≡◌, ℕ, ◌<◌, ◌≤◌, ◌⊎◌, inl, inr, List, [], ◌∷◌, ◌++◌, length, get_or, sym, ap, subst, arith, length-append}
use Rattle.std.proofs.Math.Seq.{get_or-append_seam}
use Rattle.std.proofs.lemmas.List.{get_or_append_left}
use Rattle.check_link.proofs.Padded.{below_or_not}

pub by_index_more :
    {X : Type 0} (P : ℕ → X → Type 0) (xs new : List X) (x : X) → new ≡ xs ++ x ∷ [] →
    ((k : ℕ) (d : X) → k < length xs → P k (get_or xs k d)) → P (length xs) x → (k : ℕ) (d : X) → k < length new → P k (get_or new k d)
by_index_more {X} P xs new x grown each here k d low =
    subst (λ (ys : List X). P k (get_or ys k d)) (sym grown) (by (below_or_not k (length xs)))
  where
    by : (k < length xs) ⊎ (length xs ≤ k) → P k (get_or (xs ++ x ∷ []) k d)
    by (inl within) = subst (P k) (sym (get_or_append_left xs (x ∷ []) d k within)) (each k d within)
    by (inr past) =
        let n = ap (length {A = X}) grown in
        let m = length-append xs (x ∷ []) in
        let e : length xs ≡ k = omega (arith, past, low, n, m) in
        subst (λ (i : ℕ). P i (get_or (xs ++ x ∷ []) i d)) e (subst (P (length xs)) (sym (get_or-append_seam xs x [] d)) here)

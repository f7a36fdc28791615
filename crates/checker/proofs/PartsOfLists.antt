-- A stretch of a list, from one place up to another.
use Rattle.std.proofs.Common.{◌≡◌, ℕ, ◌+◌, ◌-◌, ◌<◌, ◌≤◌, ◌⊎◌, inl, inr, List, length, get_or, take, drop, sym, ◌∙◌, ap, subst, arith, length-take, length-drop}
use Rattle.std.specs.Prelude.{All, Contains}
use Rattle.std.proofs.lemmas.List.{get_or-drop, get_or-take}
use Rattle.std.proofs.lemmas.List.Elements.{Contains-get_or}
use Rattle.check_link.proofs.Padded.{below_or_not}

module _ {X : Type 0} (xs : List X) (low high : ℕ) where
  -- what stands at a place of the stretch
  stretch_at : (k : ℕ) (d : X) → low + k < high → get_or (drop low (take high xs)) k d ≡ get_or xs (low + k) d
  stretch_at k d below = get_or-drop low (take high xs) k d ∙ get_or-take high xs (low + k) d below

  -- the stretch has elements of the list alone
  pub stretch_there : All (Contains xs) (drop low (take high xs))
  stretch_there k d within =
      let n = length-drop low (take high xs) in
      let t = length-take high xs in
      subst (Contains xs) (sym (stretch_at k d (omega (arith, within, n, t)))) (Contains-get_or xs (low + k) d (omega (arith, within, n, t)))

  -- and those between the places
  pub stretch_has : (i : ℕ) (d : X) → low ≤ i → i < high → i < length xs → Contains (drop low (take high xs)) (get_or xs i d)
  stretch_has i d from to within =
      let n = length-drop low (take high xs) in
      let t = length-take high xs in
      let e : low + (i - low) ≡ i = omega (arith, from) in
      let at : get_or (drop low (take high xs)) (i - low) d ≡ get_or xs i d =
      stretch_at (i - low) d (omega (arith, from, to)) ∙ ap (λ (k : ℕ). get_or xs k d) e in
      subst (Contains (drop low (take high xs))) at
      (Contains-get_or (drop low (take high xs)) (i - low) d (omega (arith, n, t, from, to, within)))

-- a stretch keeps all elements but those that were told apart in front of it and behind it
pub stretch_keeps :
    {X : Type 0} (Early Late : X → Type 0) (xs begun part : List X) (low high : ℕ) → begun ≡ take high xs → part ≡ drop low begun →
    ((k : ℕ) (d : X) → k < low → Early (get_or begun k d)) →
    ((k : ℕ) (d : X) → high ≤ k → k < length xs → Late (get_or xs k d)) →
    All (λ x. (Early x → ⊥) → (Late x → ⊥) → Contains part x) xs
stretch_keeps {X} Early Late xs begun part low high begun_is part_is early late k d within not_early not_late =
    by (below_or_not k low) (below_or_not k high)
  where
    by : (k < low) ⊎ (low ≤ k) → (k < high) ⊎ (high ≤ k) → Contains part (get_or xs k d)
    by other (inr past) = absurd (not_late (late k d past within))
    by (inl under) (inl to) =
        absurd
        (not_early
        (subst Early (ap (λ (ys : List X). get_or ys k d) begun_is ∙ get_or-take high xs k d to) (early k d under)))
    by (inr from) (inl to) =
        subst (λ (ps : List X). Contains ps (get_or xs k d)) (sym (part_is ∙ ap (drop low) begun_is))
        (stretch_has xs low high k d from to within)

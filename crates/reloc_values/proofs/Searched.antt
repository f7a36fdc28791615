-- Searches of a list without elements that don't pass, and of one in another order.
use Rattle.std.proofs.Common.{◌≡◌, ◌⊎◌, ℕ, zero, suc, ◌<◌, ◌≤◌, inl, inr, Bool, true, false, cond, List, [], ◌∷◌, Option, None, Some, drop, get_or, length, refl, sym, ap, take, ◌∙◌, arith}
use Rattle.std.specs.Prelude.{All, AllPairs, Contains, IsPermutation, find}
use Rattle.std.proofs.lemmas.Bool.{false_from_ne_true}
use Rattle.std.proofs.lemmas.List.Sorted.{All-permutation, Contains-permutation, IsPermutation-sym}
use Rattle.elf_model.proofs.Finding.{find-found, find-none, none-passes}
use Rattle.elf_model.proofs.Listed.{find_only}
use Rattle.elf_model.proofs.Pairs.{related}

-- without the first n, none of which passes
pub find-drop :
    {X : Type 0} (p : X → Bool) (n : ℕ) (xs : List X) → ((i : ℕ) (d : X) → i < n → i < length xs → p (get_or xs i d) ≡ false) →
    find p (drop n xs) ≡ find p xs
find-drop p zero xs none = refl
find-drop p (suc n) [] none = refl
find-drop {X} p (suc n) (x ∷ xs) none =
    find-drop p n xs (λ i d low within. none (suc i) d (omega (arith, low)) (omega (arith, within)))
    ∙ sym (ap (λ (b : Bool). cond b (Some x) (find p xs)) (none 0 x (omega arith) (omega arith)))

-- without those from the n-th on, none of which passes
pub find-take :
    {X : Type 0} (p : X → Bool) (n : ℕ) (xs : List X) → ((i : ℕ) (d : X) → n ≤ i → i < length xs → p (get_or xs i d) ≡ false) →
    find p (take n xs) ≡ find p xs
find-take p zero xs none = sym (find-none p xs (λ i d within. none i d (omega arith) within))
find-take p (suc n) [] none = refl
find-take {X} p (suc n) (x ∷ xs) none =
    ap (λ (o : Option X). cond (p x) (Some x) o)
    (find-take p n xs (λ i d low within. none (suc i) d (omega (arith, low)) (omega (arith, within))))

-- where none passes, none is found
pub find-nowhere : {X : Type 0} (p : X → Bool) (xs : List X) → All (λ x. p x ≡ true → ⊥) xs → find p xs ≡ None
find-nowhere p xs never = find-none p xs (λ k d low. false_from_ne_true (p (get_or xs k d)) (never k d low))

-- a test that two related elements never both pass finds the same in any order
pub find-moved :
    {X : Type 0} (R : X → X → Type 0) (p : X → Bool) (xs ys : List X) → IsPermutation xs ys → AllPairs R xs →
    ((x y : X) → R x y → p x ≡ true → p y ≡ true → ⊥) → find p ys ≡ find p xs
find-moved {X} R p xs ys moved pairs apart = by (find p xs) refl
  where
    only : (x y : X) → Contains xs x → Contains xs y → p x ≡ true → p y ≡ true → y ≡ x
    only x y cx cy ex ey = of (related R xs y x pairs cy cx)
      where
        of : (y ≡ x) ⊎ (R y x ⊎ R x y) → y ≡ x
        of (inl e) = e
        of (inr (inl r)) = absurd (apart y x r ey ex)
        of (inr (inr r)) = absurd (apart x y r ex ey)

    by : (o : Option X) → find p xs ≡ o → find p ys ≡ find p xs
    by None e = find-none p ys (All-permutation (λ (x : X). p x ≡ false) xs ys moved (none-passes p xs e)) ∙ sym e
    by (Some x) e =
        let f = find-found p xs x e in
        find_only p ys x (Contains-permutation xs ys x moved f.there) f.passes
        (λ y c t. only x y f.there (Contains-permutation ys xs y (IsPermutation-sym xs ys moved) c) f.passes t)
        ∙ sym e

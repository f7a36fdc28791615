-- Vectors that are compared lane by lane, and runs of bytes that are compared vector by vector.
use Rattle.std.proofs.Common.{◌≡◌, ℕ, zero, suc, ◌+◌, ◌-◌, ◌%◌, ◌^◌, ◌<◌, ◌≤◌, ◌↔◌, Bool, true, false, not, cond, eqb, List, [], ◌∷◌, ◌++◌, map, length, drop, replicate, refl, sym, take, ap, ◌∙◌, arith, eqb-true, eq-eqb}
use Rattle.std.specs.Prelude.{nat_lt, slice_index}
use Rattle.std.proofs.lemmas.Bool.{eqb-false, ltb-false, ltb-true}
use Rattle.std.proofs.lemmas.List.{length-map, places, take-append-drop}
use Rattle.std.proofs.lemmas.Simd.{length-zip2, mask_l-mod}
use lib.Lanes.{mask_l, top, zip2}
use Rattle.byteview.specs.Runs.{IsAll}

-- a lane of a comparison
abbrev pub differs : ℕ → ℕ → ℕ
differs a b = cond (not (eqb a b)) 255 0

flag : (x y : ℕ) → (◌≡◌ {A = ℕ} (cond (top 7 (differs x y)) 1 0) 0) ↔ (x ≡ y)
flag x y = go (eqb x y) refl
  where
    go : (t : Bool) → eqb x y ≡ t → (◌≡◌ {A = ℕ} (cond (top 7 (cond (not t) 255 0)) 1 0) 0) ↔ (x ≡ y)
    go true e = (λ _. eqb-true _ _ e, λ _. refl)
    go false e = (λ q. absurd (omega arith), λ z. absurd (eqb-false _ _ e z))

none_differ : (xs ys : List ℕ) → length xs ≡ length ys → (mask_l (map (top 7) (zip2 differs xs ys)) ≡ 0) ↔ (xs ≡ ys)
none_differ [] [] long = (λ _. refl, λ _. refl)
none_differ [] (y ∷ ys) long = absurd (omega (arith, long))
none_differ (x ∷ xs) [] long = absurd (omega (arith, long))
none_differ (x ∷ xs) (y ∷ ys) long =
    let r = none_differ xs ys (omega (arith, long)) in
    let f = flag x y in (
      λ e. let a = f.0 (omega (arith, e)) in let b = r.0 (omega (arith, e)) in cc,
      λ same.
          let a : x ≡ y = cc in
          let b : xs ≡ ys = cc in
          let c = f.1 a in
          let d = r.1 b in omega (arith, c, d),
    )

-- no bit of the comparison's mask is set where the vectors have the same lanes
pub agree_by_mask :
    (xs ys : List ℕ) (n : ℕ) → length xs ≡ n → length ys ≡ n → n ≤ 64 →
    (eqb (mask_l (map (top 7) (zip2 differs xs ys)) % 2 ^ 64) 0 ≡ true) ↔ (xs ≡ ys)
agree_by_mask xs ys n p q few =
    let long : length xs ≡ length ys = p ∙ sym q in
    let small = mask_l-mod (map (top 7) (zip2 differs xs ys)) 64 (omega (arith, length-map (zip2 differs xs ys) (top 7), length-zip2 differs xs ys long, p)) in
    (λ t. (none_differ xs ys long).0 (sym small ∙ eqb-true _ _ t), λ same. eq-eqb _ _ (small ∙ (none_differ xs ys long).1 same))

-- lanes that are those of a vector of one byte
pub all_by_lanes : (xs : List ℕ) (x n : ℕ) → length xs ≡ n → (xs ≡ replicate n x) ↔ IsAll x xs
all_by_lanes [] x zero long = (λ _ k low. absurd (omega (arith, low)), λ _. refl)
all_by_lanes [] x (suc n) long = absurd (omega (arith, long))
all_by_lanes (y ∷ xs) x zero long = absurd (omega (arith, long))
all_by_lanes (y ∷ xs) x (suc n) long =
    let r = all_by_lanes xs x n (omega (arith, long)) in (
      λ same. elim [ zero ↦ λ low. (let e : y ≡ x = cc in e) | suc k ↦ λ low. (let e : xs ≡ replicate n x = cc in r.0 e k (omega (arith, low))) ],
      λ all. let e : y ≡ x = all 0 (omega arith) in let f = r.1 (λ k low. all (suc k) (omega (arith, low))) in cc,
    )

-- a run is of one byte where its first part and the rest are
pub all_of_parts : (n x : ℕ) (xs : List ℕ) → n ≤ length xs → IsAll x (take n xs) → IsAll x xs ↔ IsAll x (drop n xs)
all_of_parts n x xs fits front = (λ all k low. rest all k low, λ rest k low. by k (nat_lt k n) refl low rest)
  where
    rest : IsAll x xs → (k : ℕ) → k < length (drop n xs) → slice_index (drop n xs) k ≡ x
    rest all k low = grind (arith, places, all (n + k))

    by : (k : ℕ) (t : Bool) → nat_lt k n ≡ t → k < length xs → IsAll x (drop n xs) → slice_index xs k ≡ x
    by k true e low back = let f = ltb-true k n e in grind (arith, places, front k)
    by k false e low back = let f = ltb-false k n e in grind (arith, places, back (k - n))

pub all_at_first : (n x : ℕ) (xs : List ℕ) → n ≤ length xs → IsAll x xs → IsAll x (take n xs)
all_at_first n x xs fits all k low = grind (arith, places, all k)

-- runs are the same where their first parts and the rests are
pub same_of_parts : (n : ℕ) (xs ys : List ℕ) → take n xs ≡ take n ys → (xs ≡ ys) ↔ (drop n xs ≡ drop n ys)
same_of_parts n xs ys front = (
  λ same. ap (drop n) same,
  λ back. sym (take-append-drop n xs) ∙ (ap (λ (zs : List ℕ). zs ++ drop n xs) front ∙ (ap (λ (zs : List ℕ). take n ys ++ zs) back ∙ take-append-drop n ys)),
)

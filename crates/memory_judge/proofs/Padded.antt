-- Runs that are equal where bytes past an end count as 0, and parts of them.
use Rattle.std.proofs.Common.{◌≡◌, ℕ, ◌+◌, ◌-◌, ◌<◌, ◌≤◌, ◌⊎◌, inl, inr, Bool, true, false, List, length, get_or, take, drop, refl, sym, ◌∙◌, ap, subst, arith, length-take, length-drop}
use Rattle.std.specs.Prelude.{min, nat_lt, slice_index}
use Rattle.std.proofs.lemmas.Bool.{ltb-true, ltb-false}
use Rattle.std.proofs.lemmas.List.{ext_get_or, get_or-drop, get_or-take, get_or_past}
use Rattle.memory_judge.specs.Rests.{AreEqual}

abbrev pub AreZeros : List ℕ → Type 0
AreZeros xs = (k : ℕ) → k < length xs → slice_index xs k ≡ 0

abbrev pub SamePadded : List ℕ → List ℕ → Type 0
SamePadded a b = (k : ℕ) → slice_index a k ≡ slice_index b k

pub below_or_not : (a b : ℕ) → (a < b) ⊎ (b ≤ a)
below_or_not a b = go (nat_lt a b) refl
  where
    go : (t : Bool) → nat_lt a b ≡ t → (a < b) ⊎ (b ≤ a)
    go true e = inl (ltb-true a b e)
    go false e = inr (ltb-false a b e)

zero_everywhere : (xs : List ℕ) → AreZeros xs → (j : ℕ) → slice_index xs j ≡ 0
zero_everywhere xs zeros j = by (below_or_not j (length xs))
  where
    by : (j < length xs) ⊎ (length xs ≤ j) → slice_index xs j ≡ 0
    by (inl within) = zeros j within
    by (inr past) = get_or_past xs j 0 past

-- the bytes behind the common length
rest_zero : (a : List ℕ) (c k : ℕ) → AreZeros (drop c a) → c ≤ k → slice_index a k ≡ 0
rest_zero a c k zeros low =
    let e : c + (k - c) ≡ k = omega (arith, low) in
    let d = get_or-drop c a (k - c) 0 in
    subst (λ (j : ℕ). slice_index a j ≡ 0) e (sym d ∙ zero_everywhere (drop c a) zeros (k - c))

pub padded_from_parts :
    (a b : List ℕ) (c : ℕ) → take c a ≡ take c b → AreZeros (drop c a) → AreZeros (drop c b) → SamePadded a b
padded_from_parts a b c front za zb k = by (below_or_not k c)
  where
    by : (k < c) ⊎ (c ≤ k) → slice_index a k ≡ slice_index b k
    by (inl low) = sym (get_or-take c a k 0 low) ∙ (ap (λ (xs : List ℕ). get_or xs k 0) front ∙ get_or-take c b k 0 low)
    by (inr high) = rest_zero a c k za high ∙ sym (rest_zero b c k zb high)

pub zeros_from_padded : (a b : List ℕ) (c : ℕ) → c ≡ min (length a) (length b) → SamePadded a b → AreZeros (drop c a)
zeros_from_padded a b c e same k within =
    let n = length-drop c a in
    get_or-drop c a k 0 ∙ (same (c + k) ∙ get_or_past b (c + k) 0 (omega (arith, e, n, within)))

pub front_from_padded : (a b : List ℕ) (c : ℕ) → c ≡ min (length a) (length b) → SamePadded a b → take c a ≡ take c b
front_from_padded a b c e same =
    let na = length-take c a in
    let nb = length-take c b in
    ext_get_or 0 (take c a) (take c b) (omega (arith, na, nb, e))
    (λ k within.
    let low : k < c = omega (arith, na, within) in
    get_or-take c a k 0 low ∙ (same k ∙ sym (get_or-take c b k 0 low)))

-- parts of two runs that are equal where the runs are between two places
pub equal_parts :
    (a b pa pb : List ℕ) (from to : ℕ) → from + length pa ≤ to → from + length pb ≤ to →
    ((k : ℕ) → from + k < to → slice_index a (from + k) ≡ slice_index pa k) →
    ((k : ℕ) → from + k < to → slice_index b (from + k) ≡ slice_index pb k) →
    (SamePadded pa pb → AreEqual a b from to) × (AreEqual a b from to → SamePadded pa pb)
equal_parts a b pa pb from to la lb sa sb = (
  λ h k low high.
      let e : from + (k - from) ≡ k = omega (arith, low) in
      let below : from + (k - from) < to = omega (arith, low, high) in
      ap (slice_index a) (sym e) ∙ (sa (k - from) below ∙ (h (k - from) ∙ (sym (sb (k - from) below) ∙ ap (slice_index b) e))),
  λ same k. by same k (below_or_not (from + k) to),
)
  where
    by : AreEqual a b from to → (k : ℕ) → (from + k < to) ⊎ (to ≤ from + k) → slice_index pa k ≡ slice_index pb k
    by same k (inl low) = sym (sa k low) ∙ (same (from + k) (omega arith) low ∙ sb k low)
    by same k (inr past) = get_or_past pa k 0 (omega (arith, past, la)) ∙ sym (get_or_past pb k 0 (omega (arith, past, lb)))

-- Tests and counts over the numbers up to one, with one more number.
use Rattle.std.proofs.Common.{◌≡◌, ◌≤◌, ◌+◌, ◌-◌, ◌<◌, ◌∙◌, ◌∷◌, ◌||◌, [], ℕ, Bool, true, false, cond, List, ap, arith, get_or, length, refl, suc, take, zero}
use Rattle.std.specs.Prelude.{count_by, sum_by}
use Rattle.std.specs.List.{list_any, range_with_len}
use Rattle.std.proofs.lemmas.List.Folds.{list_any-append, list_any_at}
use Rattle.std.proofs.lemmas.List.FromFn.{get_or-range_with_len, length-range_with_len}
use Rattle.std.proofs.lemmas.List.Sums.{sum_by-append, sum_by-cons}
use Rattle.std.proofs.Math.Nat.{add-zero, zero-add}
use Rattle.debug_image.proofs.RangeSteps.{any_take, range_more}

or_false : (b : Bool) → (b || false) ≡ b
or_false true = refl
or_false false = refl

-- none of the first numbers passes, nor does the next; one of them passes
pub none_more : (p : ℕ → Bool) (n : ℕ) → list_any p (range_with_len 0 n) ≡ false → p n ≡ false → list_any p (range_with_len 0 (n + 1)) ≡ false
none_more p n none next =
    ap (list_any p) (range_more n)
    ∙ (list_any-append p (range_with_len 0 n) (n ∷ [])
    ∙ (ap (λ (b : Bool). b || (p n || false)) none ∙ (or_false (p n) ∙ next)))

pub some_at : (p : ℕ → Bool) (n i : ℕ) → i < n → p i ≡ true → list_any p (range_with_len 0 n) ≡ true
some_at p n i low there =
    list_any_at p (range_with_len 0 n) i 0 (omega (arith, low, length-range_with_len 0 n)) (ap p (get_or-range_with_len 0 n i 0 low ∙ zero-add i) ∙ there)

pub none_next : {X : Type 0} (p : X → Bool) (xs : List X) (i : ℕ) (d : X) → i < length xs → list_any p (take i xs) ≡ false → p (get_or xs i d) ≡ false → list_any p (take (i + 1) xs) ≡ false
none_next p xs i d within none next =
    any_take p xs i d within ∙ (ap (λ (b : Bool). b || p (get_or xs i d)) none ∙ next)

-- a sum over the numbers up to one has one more, and is no less than one over fewer
pub sum_more : (f : ℕ → ℕ) (n : ℕ) → sum_by f (range_with_len 0 (n + 1)) ≡ sum_by f (range_with_len 0 n) + f n
sum_more f n =
    ap (sum_by f) (range_more n)
    ∙ (sum_by-append f (range_with_len 0 n) (n ∷ [])
    ∙ ap (λ (k : ℕ). sum_by f (range_with_len 0 n) + k) (sum_by-cons f n [] ∙ add-zero (f n)))

sum_grows : (f : ℕ → ℕ) (n m d : ℕ) → m ≡ n + d → sum_by f (range_with_len 0 n) ≤ sum_by f (range_with_len 0 m)
sum_grows f n m zero is =
    let same : n ≡ m = omega (arith, is) in
    let sums : sum_by f (range_with_len 0 n) ≡ sum_by f (range_with_len 0 m) = ap (λ (k : ℕ). sum_by f (range_with_len 0 k)) same in
    omega (arith, sums)
sum_grows f n m (suc d) is =
    let last : m ≡ n + d + 1 = omega (arith, is) in
    let more : sum_by f (range_with_len 0 m) ≡ sum_by f (range_with_len 0 (n + d)) + f (n + d) =
    ap (λ (k : ℕ). sum_by f (range_with_len 0 k)) last ∙ sum_more f (n + d) in
    let before = sum_grows f n (n + d) d refl in
    omega (arith, more, before)

pub sum_within : (f : ℕ → ℕ) (n m : ℕ) → n ≤ m → sum_by f (range_with_len 0 n) ≤ sum_by f (range_with_len 0 m)
sum_within f n m low = sum_grows f n m (m - n) (omega (arith, low))

-- one more number is counted, or isn't
pub count_more : (p : ℕ → Bool) (n : ℕ) → count_by p (range_with_len 0 (n + 1)) ≡ count_by p (range_with_len 0 n) + cond (p n) 1 0
count_more p n = sum_more (λ (k : ℕ). cond (p k) 1 0) n

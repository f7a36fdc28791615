-- What numbers that are made of the first bytes of two names say of the order of the names.
use Rattle.std.proofs.Common.{◌≡◌, ◌∙◌, ℕ, zero, suc, ◌+◌, ◌*◌, ◌^◌, ◌<◌, ◌≤◌, Option, None, Some, List, [], ◌∷◌, ◌++◌, drop, get_or, length, pow-suc, refl, sym, take, ap, arith}
use Rattle.std.specs.Prelude.{All, slice_get}
use Rattle.std.specs.List.{range_with_len}
use Rattle.std.specs.Cmp.Lexicographic.{slice_cmp}
use Rattle.std.specs.Ordering.{nat_cmp, ordering_then}
use Rattle.std.specs.declared.cmp.Ordering.{Ordering}
use Rattle.std.specs.declared.cmp.Ordering.TheVariants.{Equal, Greater, Less}
use Rattle.std.proofs.lemmas.Cmp.{by_ranked, ranked}
use Rattle.std.proofs.lemmas.List.{map-id}
use Rattle.std.proofs.lemmas.List.Elements.{All-head, All-tail}
use Rattle.std.proofs.lemmas.List.FromFn.{map-range_with_len_more}
use Rattle.std.proofs.lemmas.Nat.{mul-add-lt}
use Rattle.std.proofs.Math.Nat.{mul-le-mul_right, pow-le-pow_right}
use Rattle.resolve.proofs.Located.{All-at}
use Rattle.linker.specs.NameKeys.{digit, key_with}

-- a byte more
pub key_more : (n : ℕ) (xs : List ℕ) → key_with (suc n) xs ≡ key_with n xs * 257 + digit (slice_get xs n)
unfolding key_with
key_more zero [] = refl
key_more zero (x ∷ xs) = omega arith
key_more (suc n) [] = refl
key_more (suc n) (x ∷ xs) =
    let rest = key_more n xs in
    let power = ap (λ (p : ℕ). (x + 1) * p) (pow-suc 257 n) in
    omega (arith, rest, power)

pub key_below : (n : ℕ) (xs : List ℕ) → All (λ b. b < 256) xs → key_with n xs < 257 ^ n
unfolding key_with
key_below zero xs all = omega arith
key_below (suc n) [] all = let rest = key_below n [] all in omega (arith, rest, pow-suc 257 n)
key_below (suc n) (x ∷ xs) all =
    let byte = All-head (λ b. b < 256) x xs all in
    let rest = key_below n xs (All-tail (λ b. b < 256) x xs all) in
    let sum = mul-add-lt (x + 1) (257 ^ n) (key_with n xs) 257 (omega (arith, byte)) rest in
    omega (arith, sum, pow-suc 257 n)

pub is_less : (a b : ℕ) → a < b → nat_cmp a b ≡ Less
is_less a b less = by_ranked (a < b) (a ≡ b) (b < a) (nat_cmp a b) (ranked a b (nat_cmp a b) refl) (λ e _. e) (λ e p. absurd (omega (arith, less, p))) (λ e p. absurd (omega (arith, less, p)))

pub is_equal : (a b : ℕ) → a ≡ b → nat_cmp a b ≡ Equal
is_equal a b same = by_ranked (a < b) (a ≡ b) (b < a) (nat_cmp a b) (ranked a b (nat_cmp a b) refl) (λ e p. absurd (omega (arith, same, p))) (λ e _. e) (λ e p. absurd (omega (arith, same, p)))

is_greater : (a b : ℕ) → b < a → nat_cmp a b ≡ Greater
is_greater a b less = by_ranked (a < b) (a ≡ b) (b < a) (nat_cmp a b) (ranked a b (nat_cmp a b) refl) (λ e p. absurd (omega (arith, less, p))) (λ e p. absurd (omega (arith, less, p))) (λ e _. e)

-- the same in front of both
shifted : (c a b : ℕ) → nat_cmp (c + a) (c + b) ≡ nat_cmp a b
shifted c a b =
    by_ranked (a < b) (a ≡ b) (b < a) (nat_cmp a b) (ranked a b (nat_cmp a b) refl)
    (λ e p. is_less (c + a) (c + b) (omega (arith, p)) ∙ sym e)
    (λ e p. is_equal (c + a) (c + b) (omega (arith, p)) ∙ sym e)
    (λ e p. is_greater (c + a) (c + b) (omega (arith, p)) ∙ sym e)

-- a greater digit in front
digits_less : (x y p a b : ℕ) → a < p → x < y → (x + 1) * p + a < (y + 1) * p + b
digits_less x y p a b small less =
    let step : (x + 2) * p ≤ (y + 1) * p = mul-le-mul_right p (omega (arith, less)) in
    omega (arith, step, small)

-- names are in the order of their numbers, and where these are equal, in that of the bytes behind
pub keys_order :
    (n : ℕ) (xs ys us vs : List ℕ) → All (λ b. b < 256) xs → All (λ b. b < 256) ys →
    slice_cmp nat_cmp us vs ≡ slice_cmp nat_cmp (drop n xs) (drop n ys) →
    slice_cmp nat_cmp (key_with n xs ∷ us) (key_with n ys ∷ vs) ≡ slice_cmp nat_cmp xs ys
unfolding key_with
keys_order zero xs ys us vs ax ay rest = rest
keys_order (suc n) [] [] us vs ax ay rest = rest
keys_order (suc n) [] (y ∷ ys) us vs ax ay rest =
    let p = key_below n [] ax in
    let step : 1 * 257 ^ n ≤ (y + 1) * 257 ^ n = mul-le-mul_right (257 ^ n) (omega arith) in
    ap (λ (o : Ordering). ordering_then o (slice_cmp nat_cmp us vs)) (is_less 0 ((y + 1) * 257 ^ n + key_with n ys) (omega (arith, p, step)))
keys_order (suc n) (x ∷ xs) [] us vs ax ay rest =
    let p = key_below n [] ay in
    let step : 1 * 257 ^ n ≤ (x + 1) * 257 ^ n = mul-le-mul_right (257 ^ n) (omega arith) in
    ap (λ (o : Ordering). ordering_then o (slice_cmp nat_cmp us vs)) (is_greater ((x + 1) * 257 ^ n + key_with n xs) 0 (omega (arith, p, step)))
keys_order (suc n) (x ∷ xs) (y ∷ ys) us vs ax ay rest =
    by_ranked (x < y) (x ≡ y) (y < x) (nat_cmp x y) (ranked x y (nat_cmp x y) refl)
    (λ e less. first Less (λ z. refl) (is_less a b (digits_less x y (257 ^ n) (key_with n xs) (key_with n ys) (key_below n xs tx) less)) e)
    (λ e same.
    ap (λ (o : Ordering). ordering_then o (slice_cmp nat_cmp us vs)) (tied same)
    ∙ keys_order n xs ys us vs tx ty rest
    ∙ ap (λ (o : Ordering). ordering_then o (slice_cmp nat_cmp xs ys)) (sym e))
    (λ e less. first Greater (λ z. refl) (is_greater a b (digits_less y x (257 ^ n) (key_with n ys) (key_with n xs) (key_below n ys ty) less)) e)
  where
    a : ℕ
    a = (x + 1) * 257 ^ n + key_with n xs

    b : ℕ
    b = (y + 1) * 257 ^ n + key_with n ys

    tx : All (λ b. b < 256) xs
    tx = All-tail (λ b. b < 256) x xs ax

    ty : All (λ b. b < 256) ys
    ty = All-tail (λ b. b < 256) y ys ay

    tied : x ≡ y → nat_cmp a b ≡ nat_cmp (key_with n xs) (key_with n ys)
    tied same =
        ap (λ (z : ℕ). nat_cmp a ((z + 1) * 257 ^ n + key_with n ys)) (sym same)
        ∙ shifted ((x + 1) * 257 ^ n) (key_with n xs) (key_with n ys)

    first : (o : Ordering) → ((z : Ordering) → ordering_then o z ≡ o) → nat_cmp a b ≡ o → nat_cmp x y ≡ o → ordering_then (nat_cmp a b) (slice_cmp nat_cmp us vs) ≡ ordering_then (nat_cmp x y) (slice_cmp nat_cmp xs ys)
    first o settles e f =
        ap (λ (q : Ordering). ordering_then q (slice_cmp nat_cmp us vs)) e
        ∙ settles (slice_cmp nat_cmp us vs)
        ∙ sym (settles (slice_cmp nat_cmp xs ys))
        ∙ sym (ap (λ (q : Ordering). ordering_then q (slice_cmp nat_cmp xs ys)) f)

-- fewer digits than seven make a number that has room for one more
pub key_small : (n : ℕ) (xs : List ℕ) → n < 7 → All (λ b. b < 256) xs → key_with n xs < 257 ^ 6
key_small n xs few all =
    let below : n ≤ 6 = omega (arith, few) in
    let some : 1 ≤ 257 = omega arith in
    let p : 257 ^ n ≤ 257 ^ 6 = pow-le-pow_right some below in
    omega (arith, key_below n xs all, p)

pub digit_small : (xs : List ℕ) (i : ℕ) → All (λ b. b < 256) xs → digit (slice_get xs i) < 257
digit_small xs i all = by (slice_get xs i) (λ b is. All-at (λ b. b < 256) xs i b all is)
  where
    by : (o : Option ℕ) → ((b : ℕ) → o ≡ Some b → b < 256) → digit o < 257
    by None each = omega arith
    by (Some b) each = let s = each b refl in omega (arith, s)

-- a byte that is there as a digit
pub digit_at : (xs : List ℕ) (i d : ℕ) → i < length xs → digit (slice_get xs i) ≡ get_or xs i d + 1
digit_at [] i d within = absurd (omega (arith, within))
digit_at (x ∷ xs) zero d within = refl
digit_at (x ∷ xs) (suc i) d within = digit_at xs i d (omega (arith, within))

-- a number is made of as many bytes
pub key_of_front : (n : ℕ) (xs : List ℕ) → key_with n (take n xs) ≡ key_with n xs
unfolding key_with
key_of_front zero xs = refl
key_of_front (suc n) [] = refl
key_of_front (suc n) (x ∷ xs) = ap (λ (k : ℕ). (x + 1) * 257 ^ n + k) (key_of_front n xs)

pub range_more : (n : ℕ) → range_with_len 0 (n + 1) ≡ range_with_len 0 n ++ n ∷ []
range_more n =
    sym (map-id (range_with_len 0 (n + 1)))
    ∙ map-range_with_len_more (λ j. j) 0 n n (omega arith)
    ∙ ap (λ (js : List ℕ). js ++ n ∷ []) (map-id (range_with_len 0 n))

-- The numbers from 0 on: what stands among them, and one more of them.
use Rattle.std.proofs.Common.{◌≡◌, ℕ, ◌+◌, ◌<◌, Bool, cond, [], ◌∷◌, ◌++◌, get_or, ap, sym, subst, ◌∙◌, arith}
use Rattle.std.specs.Prelude.{Contains, filter}
use Rattle.std.specs.List.{All, range_with_len}
use Rattle.std.proofs.lemmas.List.{map-id}
use Rattle.std.proofs.lemmas.List.Elements.{All-from_get_or, All-get_or, filter-append}
use Rattle.std.proofs.lemmas.List.FromFn.{get_or-range_with_len, length-range_with_len, map-range_with_len_more}

pub in_range : (n k : ℕ) → k < n → Contains (range_with_len 0 n) k
in_range n k within =
    (k, omega (arith, within, length-range_with_len 0 n), get_or-range_with_len 0 n k k within ∙ omega arith)

pub range_more : (n : ℕ) → range_with_len 0 (n + 1) ≡ range_with_len 0 n ++ n ∷ []
range_more n =
    sym (map-id (range_with_len 0 (n + 1))) ∙ map-range_with_len_more (λ k. k) 0 n n (omega arith) ∙ ap (λ ks. ks ++ n ∷ []) (map-id (range_with_len 0 n))

-- those of them that pass a test
pub filter_range_more : (p : ℕ → Bool) (n : ℕ) → filter p (range_with_len 0 (n + 1)) ≡ filter p (range_with_len 0 n) ++ cond (p n) (n ∷ []) []
filter_range_more p n = ap (filter p) (range_more n) ∙ filter-append p (range_with_len 0 n) (n ∷ [])

-- a fact of each number below n
pub all_numbers : (P : ℕ → Type 0) (n : ℕ) → ((i : ℕ) → i < n → P i) → All P (range_with_len 0 n)
all_numbers P n each = All-from_get_or P (range_with_len 0 n) 0 (λ i within.
    let below : i < n = subst (λ m. i < m) (length-range_with_len 0 n) within in
    subst P (sym (get_or-range_with_len 0 n i 0 below)) (subst P (omega arith) (each i below)))

pub number_of : (P : ℕ → Type 0) (n : ℕ) → All P (range_with_len 0 n) → (i : ℕ) → i < n → P i
number_of P n all i below =
    let here = All-get_or P (range_with_len 0 n) i 0 (subst (λ m. i < m) (sym (length-range_with_len 0 n)) below) all in
    let same : get_or (range_with_len 0 n) i 0 ≡ i = get_or-range_with_len 0 n i 0 below ∙ omega arith in
    subst P same here

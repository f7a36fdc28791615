-- What is marked after a list of numbers was, and which numbers are marked then.
use Rattle.std.proofs.Common.{◌≡◌, ℕ, zero, suc, ◌+◌, ◌-◌, ◌<◌, ◌≤◌, Bool, true, false, cond, ◌||◌, inl, inr, List, [], ◌∷◌, ◌++◌, drop, get_or, length, replicate, set, take, refl, ap, sym, subst, ◌∙◌, arith}
use Rattle.std.specs.Cmp.{nat_eq_equiv}
use Rattle.std.specs.Prelude.{Contains, filter, nat_eq}
use Rattle.std.specs.List.{All, list_any, range_with_len}
use Rattle.std.proofs.Math.Seq.{take-append_seam}
use Rattle.std.proofs.Math.Bool.{or-false, or_assoc}
use Rattle.std.proofs.lemmas.Bool.{cases_eq, eq-eqb, eqb-true, ne_eqb, or_from}
use Rattle.std.proofs.lemmas.List.{append-nil, get_or-replicate, get_or-set_other, get_or-set_same, length-replicate, length-set}
use Rattle.std.proofs.lemmas.List.Elements.{All-head, All-tail}
use Rattle.std.proofs.lemmas.Map.Views.{Contains-from_any, list_any-from_Contains}
use Rattle.elf_model.specs.Link.Groups.{ascending, limit}
use Rattle.elf_model.specs.Marks.{is_marked, marked, marked_numbers}
use Rattle.elf_model.proofs.Numbering.{all_numbers, filter_range_more}

pub length-marked : (marks : List Bool) (ks : List ℕ) → length (marked marks ks) ≡ length marks
length-marked marks [] = refl
length-marked marks (k ∷ ks) = length-marked (set marks k true) ks ∙ length-set marks k true

or_true : (b : Bool) → (b || true) ≡ true
or_true true = refl
or_true false = refl

-- one more mark
marked_one : (marks : List Bool) (j k : ℕ) → k < length marks → is_marked (set marks j true) k ≡ (is_marked marks k || nat_eq k j)
marked_one marks j k within = elim (cases_eq k j) [
  | inl same ↦
      subst (λ i. get_or (set marks i true) k false ≡ true) same (get_or-set_same marks k true false within)
      ∙ sym (or_true (is_marked marks k)) ∙ ap (λ b. is_marked marks k || b) (sym (eq-eqb k j same))
  | inr other ↦
      get_or-set_other marks j k true false other
      ∙ sym (or-false (is_marked marks k)) ∙ ap (λ b. is_marked marks k || b) (sym (ne_eqb k j other))
]

pub is_marked-marked : (marks : List Bool) (ks : List ℕ) (k : ℕ) → k < length marks → is_marked (marked marks ks) k ≡ (is_marked marks k || list_any (nat_eq k) ks)
is_marked-marked marks [] k within = sym (or-false (is_marked marks k))
is_marked-marked marks (j ∷ ks) k within =
    is_marked-marked (set marks j true) ks k (omega (arith, within, length-set marks j true))
    ∙ ap (λ b. b || list_any (nat_eq k) ks) (marked_one marks j k within)
    ∙ or_assoc (is_marked marks k) (nat_eq k j) (list_any (nat_eq k) ks)

-- a number that a test finds in a list stands there, and the other way round
pub contained : (ks : List ℕ) (k : ℕ) → list_any (nat_eq k) ks ≡ true → Contains ks k
contained ks k e = Contains-from_any (λ a b e. eqb-true a b e) k ks e

pub listed : (ks : List ℕ) (k : ℕ) → Contains ks k → list_any (nat_eq k) ks ≡ true
listed ks k there = list_any-from_Contains nat_eq_equiv k ks there

-- the marks of a table that were written back whole
pub written_back : (old new : List Bool) (n : ℕ) → n ≡ length new → take n (new ++ drop (length new) old) ≡ new
written_back old new n size = ap (λ m. take m (new ++ drop (length new) old)) size ∙ take-append_seam new (drop (length new) old)

-- the least number above all
limit_least : (n : ℕ) (ks : List ℕ) → All (λ k. k < n) ks → limit ks ≤ n
limit_least n [] below = omega arith
limit_least n (k ∷ ks) below =
    let here = All-head (λ j. j < n) k ks below in
    let rest = limit_least n ks (All-tail (λ j. j < n) k ks below) in
    omega (arith, here, rest)

none_above : (ks : List ℕ) (k : ℕ) → limit ks ≤ k → list_any (nat_eq k) ks ≡ false
none_above [] k above = refl
none_above (j ∷ ks) k above =
    or_from (nat_eq k j) (list_any (nat_eq k) ks) (ne_eqb k j (λ same. absurd (omega (arith, above, same)))) (none_above ks k (omega (arith, above)))

-- numbers that all fail a test are left out
filter_beyond : (p : ℕ → Bool) (m more : ℕ) → ((k : ℕ) → m ≤ k → p k ≡ false) → filter p (range_with_len 0 (m + more)) ≡ filter p (range_with_len 0 m)
filter_beyond p m zero fails = ap (λ n. filter p (range_with_len 0 n)) (omega arith)
filter_beyond p m (suc more) fails =
    let e : m + suc more ≡ m + more + 1 = omega arith in
    ap (λ n. filter p (range_with_len 0 n)) e ∙ filter_range_more p (m + more)
    ∙ (λ j. filter_beyond p m more fails j ++ cond (fails (m + more) (omega arith) j) ((m + more) ∷ []) [])
    ∙ append-nil (filter p (range_with_len 0 m))

filter_same : (p q : ℕ → Bool) (ks : List ℕ) → All (λ k. p k ≡ q k) ks → filter p ks ≡ filter q ks
filter_same p q [] same = refl
filter_same p q (k ∷ ks) same =
    let rest = filter_same p q ks (All-tail (λ i. p i ≡ q i) k ks same) in
    λ j. cond (All-head (λ i. p i ≡ q i) k ks same j) (k ∷ rest j) (rest j)

-- in a table of n marks with those of some numbers set, these numbers are marked
pub numbers_marked : (n : ℕ) (ks : List ℕ) → All (λ k. k < n) ks → marked_numbers (marked (replicate n false) ks) ≡ ascending ks
numbers_marked n ks below =
    let marks = marked (replicate n false) ks in
    let size : length marks ≡ n = length-marked (replicate n false) ks ∙ length-replicate n false in
    let is_listed = λ (k : ℕ). list_any (nat_eq k) ks in
    let high = limit_least n ks below in
    let whole : limit ks + (n - limit ks) ≡ n = omega (arith, high) in
    ap (λ m. filter (is_marked marks) (range_with_len 0 m)) size
    ∙ filter_same (is_marked marks) is_listed (range_with_len 0 n) (all_numbers (λ k. is_marked marks k ≡ is_listed k) n (λ k within.
    is_marked-marked (replicate n false) ks k (omega (arith, within, length-replicate n false)) ∙ ap (λ b. b || is_listed k) (get_or-replicate n k false false within)))
    ∙ ap (λ m. filter is_listed (range_with_len 0 m)) (sym whole)
    ∙ filter_beyond is_listed (limit ks) (n - limit ks) (none_above ks)

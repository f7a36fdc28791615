-- What a search finds where at most one passes.
use Rattle.std.proofs.Common.{◌≡◌, ℕ, zero, suc, ◌<◌, ◌≤◌, Bool, true, false, cond, List, [], ◌∷◌, length, get_or, refl, ◌∙◌, ap, arith}
use Rattle.std.specs.Prelude.{count_by, find, Some}
use Rattle.elf_model.proofs.RisingNames.{counted}

-- one passes: it is counted
one_counted : {X : Type 0} (p : X → Bool) (xs : List X) (i : ℕ) (d : X) → i < length xs → p (get_or xs i d) ≡ true → 1 ≤ count_by p xs
one_counted p [] i d within passes = absurd (omega (arith, within))
one_counted p (x ∷ xs) zero d within passes =
    let n = counted p x xs in
    let one = ap {B = ℕ} (λ b. cond b 1 0) passes in omega (arith, n, one)
one_counted p (x ∷ xs) (suc i) d within passes =
    let n = counted p x xs in
    let more = one_counted p xs i d (omega (arith, within)) passes in omega (arith, n, more)

-- where at most one passes, a search finds each that does
pub found_itself :
    {X : Type 0} (p : X → Bool) (xs : List X) (i : ℕ) (d : X) → count_by p xs ≤ 1 → i < length xs → p (get_or xs i d) ≡ true →
    find p xs ≡ Some (get_or xs i d)
found_itself p [] i d few within passes = absurd (omega (arith, within))
found_itself p (x ∷ xs) zero d few within passes = ap (λ b. cond b (Some x) (find p xs)) passes
found_itself {X} p (x ∷ xs) (suc i) d few within passes =
    by (p x) refl (found_itself p xs i d) (one_counted p xs i d (omega (arith, within)) passes)
  where
    by :
        (b : Bool) → p x ≡ b →
        (count_by p xs ≤ 1 → i < length xs → p (get_or xs i d) ≡ true → find p xs ≡ Some (get_or xs i d)) →
        1 ≤ count_by p xs → find p (x ∷ xs) ≡ Some (get_or xs i d)
    by true e rest one =
        let n = counted p x xs in
        let here = ap {B = ℕ} (λ b. cond b 1 0) e in absurd (omega (arith, n, here, one, few))
    by false e rest one =
        let n = counted p x xs in
        let here = ap {B = ℕ} (λ b. cond b 1 0) e in
        ap (λ b. cond b (Some x) (find p xs)) e ∙ rest (omega (arith, n, here, few)) (omega (arith, within)) passes

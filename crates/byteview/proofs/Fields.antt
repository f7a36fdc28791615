-- What the library's reads of numbers give, as the numbers of the definitions.
use Rattle.std.proofs.Common.{◌≡◌, ℕ, zero, suc, ◌+◌, ◌*◌, ◌≤◌, List, [], ◌∷◌, ◌++◌, length, take, reverse, refl, ap, ◌∙◌, arith}
use Rattle.byteorder.specs.Endian.{big_from, little_from}
use Rattle.byteorder.specs.Numbers.{big_from-cons, little_from-cons}
use Rattle.std.proofs.lemmas.List.{length-reverse, length-take-le, take_all, reverse-append}
use Rattle.byteview.specs.Numbers.{le}
use Rattle.byteview.proofs.NumberLaws.{le-append}

-- the library's number of the first n bytes, least significant first
pub little_is : (n : ℕ) (xs : List ℕ) → n ≤ length xs → little_from 0 n xs ≡ le (take n xs)
unfolding le
little_is zero xs inside = refl
little_is (suc n) [] inside = absurd (omega arith)
little_is (suc n) (x ∷ xs) inside =
    ap (λ (r : ℕ). x + 256 * r) (little_from-cons 0 n x xs ∙ little_is n xs (omega arith))

-- a first byte goes behind the others
reverse_first : (x : ℕ) (xs : List ℕ) → reverse (x ∷ xs) ≡ reverse xs ++ x ∷ []
reverse_first x xs = reverse-append (x ∷ []) xs

-- the library's number of the first n bytes, most significant first
pub big_is : (n : ℕ) (xs : List ℕ) → n ≤ length xs → big_from 0 n xs ≡ le (reverse (take n xs))
unfolding le
big_is zero xs inside = refl
big_is (suc n) [] inside = absurd (omega arith)
big_is (suc n) (x ∷ xs) inside =
    let rest = big_from-cons 0 n x xs ∙ big_is n xs (omega arith) in
    let joined = le-append (reverse (take n xs)) (x ∷ []) in
    let len : length (reverse (take n xs)) ≡ n = length-reverse (take n xs) ∙ length-take-le n xs (omega arith) in
    rw (rest, reverse_first x (take n xs), joined, len) (omega arith)

-- the library's number of all bytes, most significant first
pub big_whole : (n : ℕ) (xs : List ℕ) → length xs ≡ n → big_from 0 n xs ≡ le (reverse xs)
big_whole n xs len = big_is n xs (omega arith) ∙ ap (λ (ys : List ℕ). le (reverse ys)) (take_all n xs (omega arith))

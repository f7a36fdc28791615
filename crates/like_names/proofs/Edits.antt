-- What stands behind the common front of two names tells which edit makes one of the other.
use Rattle.std.proofs.Common.{◌≡◌, ◌∙◌, inl, inr, ℕ, ◌≤◌, List, [], ◌∷◌, ◌++◌, length, take, drop, get_or, refl, ap, sym, arith}
use Rattle.std.specs.Prelude.{◌≢◌}
use Rattle.std.proofs.lemmas.List.{append_assoc, length-take, take-append-drop}
use Rattle.like_names.specs.Names.{AreExchanged, IsOneEdit}

few : (n : ℕ) (xs : List ℕ) → n ≤ 1 → length (take n xs) ≤ 1
few n xs small = let len = length-take n xs in omega (arith, len, small)

whole : (n i : ℕ) (a : List ℕ) → a ≡ take n a ++ (take i (drop n a) ++ drop i (drop n a))
whole n i a = sym (ap (λ (rest : List ℕ). take n a ++ rest) (take-append-drop i (drop n a)) ∙ take-append-drop n a)

-- behind the front at most one byte of each, and then alike
pub one_put : (a b : List ℕ) (n i j : ℕ) → a ≢ b → take n a ≡ take n b → i ≤ 1 → j ≤ 1 → drop i (drop n a) ≡ drop j (drop n b) → IsOneEdit a b
one_put a b n i j two same small less behind = record {
  front = take n a;
  x = take i (drop n a);
  y = take j (drop n b);
  back = drop i (drop n a);
  first = whole n i a;
  second = whole n j b ∙ (λ k. sym same k ++ (take j (drop n b) ++ sym behind k));
  edit = inl (few i (drop n a) small, few j (drop n b) less);
  two = two;
}

-- behind the front two bytes in both orders, and then alike
pub two_exchanged : (a b : List ℕ) (n : ℕ) → a ≢ b → take n a ≡ take n b → AreExchanged (drop n a) (drop n b) → IsOneEdit a b
two_exchanged a b n two same e = record {
  front = take n a;
  x = e.x;
  y = e.y;
  back = e.back;
  first = sym (take-append-drop n a) ∙ ap (λ (rest : List ℕ). take n a ++ rest) e.first;
  second = sym (take-append-drop n b) ∙ (λ k. sym same k ++ e.second k);
  edit = inr e.exchange;
  two = two;
}

begun : (xs : List ℕ) → 2 ≤ length xs → xs ≡ (get_or xs 0 0 ∷ get_or xs 1 0 ∷ []) ++ drop 2 xs
begun [] long = absurd (omega (arith, long))
begun (x ∷ []) long = absurd (omega (arith, long))
begun (x ∷ y ∷ xs) long = refl

pub exchanged : (a b : List ℕ) → 2 ≤ length a → 2 ≤ length b → get_or a 0 0 ≡ get_or b 1 0 → get_or a 1 0 ≡ get_or b 0 0 → drop 2 a ≡ drop 2 b → AreExchanged a b
exchanged a b long_a long_b first second behind = record {
  x = get_or a 0 0 ∷ get_or a 1 0 ∷ [];
  y = get_or a 1 0 ∷ get_or a 0 0 ∷ [];
  back = drop 2 a;
  first = begun a long_a;
  second = begun b long_b ∙ (λ k. (sym second k ∷ sym first k ∷ []) ++ sym behind k);
  exchange = (_, _, refl, refl);
}

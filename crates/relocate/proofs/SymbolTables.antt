-- Rows that tell of the symbols of an object, as they are made one after the other.
use Rattle.std.proofs.Common.{◌≡◌, ℕ, ◌+◌, ◌<◌, ◌≤◌, ◌⊎◌, inl, inr, true, nat_lt, List, [], ◌∷◌, ◌++◌, Some, get_or, length, subst, sym, ap, ◌∙◌, arith}
use Rattle.std.specs.List.{slice_get}
use Rattle.std.proofs.lemmas.List.{get_or_append_left, get_or_push, length-append}
use Rattle.std.proofs.lemmas.Option.{get_or_from_slice_get, slice_get-get_or, slice_get_within}
use Rattle.std.proofs.lemmas.Bool.{cases_lt, ltb-true}
use Rattle.elf_model.specs.Link.Loading.{LoadedObject}
use Rattle.relocate.specs.SymbolTables.{EachTells}

-- what a look-up finds
pub row_found : {X : Type 0} (rows now : List X) (j : ℕ) (x : X) → true ≡ nat_lt j (length now) → x ≡ get_or now j x → now ≡ rows → slice_get rows j ≡ Some x
row_found {X} rows now j x within is same =
    subst (λ (ys : List X). slice_get ys j ≡ Some x) same (slice_get-get_or now j x (ltb-true j (length now) (sym within)) ∙ ap (λ (z : X). Some z) (sym is))

module _ {X : Type 0} (Tells : ℕ → X → Type 0) where
  pub tells_nothing : (xs : List X) → xs ≡ [] → EachTells Tells xs
  tells_nothing xs none j x there =
      let low = slice_get_within xs j x there in
      let empty = ap (λ (ys : List X). length ys) none in
      absurd (omega (arith, low, empty))

  pub tells_more :
      (xs ys : List X) (x : X) (n : ℕ) → ys ≡ xs ++ x ∷ [] → length xs ≡ n → EachTells Tells xs → Tells n x → EachTells Tells ys
  tells_more xs ys x n grown long each here j y there = by (cases_lt j (length xs))
    where
      now : slice_get (xs ++ x ∷ []) j ≡ Some y
      now = subst (λ (zs : List X). slice_get zs j ≡ Some y) grown there

      is : get_or (xs ++ x ∷ []) j y ≡ y
      is = get_or_from_slice_get (xs ++ x ∷ []) j y y now

      by : (j < length xs) ⊎ (length xs ≤ j) → Tells j y
      by (inl low) =
          each j y
          (slice_get-get_or xs j y low ∙ ap (λ (z : X). Some z) (sym (get_or_append_left xs (x ∷ []) y j low) ∙ is))
      by (inr high) =
          let within = slice_get_within (xs ++ x ∷ []) j y now in
          let count = length-append xs (x ∷ []) in
          let at : length xs ≡ j = omega (arith, high, within, count) in
          let same : x ≡ y = sym (get_or_push xs x y j at) ∙ is in
          subst (λ (z : X). Tells j z) same (subst (λ (m : ℕ). Tells m x) (sym long ∙ at) here)

  pub counted_more : (xs ys : List X) (x : X) (n : ℕ) → ys ≡ xs ++ x ∷ [] → length xs ≡ n → length ys ≡ n + 1
  counted_more xs ys x n grown long =
      let whole = ap (λ (zs : List X). length zs) grown in
      let parts = length-append xs (x ∷ []) in
      omega (arith, whole, parts, long)

-- what is known of an object by its number among all is known of the same one
pub moved :
    (P : List LoadedObject → ℕ → LoadedObject → Type 0) (xs ys : List LoadedObject) (m n : ℕ) (a b : LoadedObject) → xs ≡ ys → m ≡ n → a ≡ b →
    P xs m a → P ys n b
moved P xs ys m n a b objects numbers own p =
    subst (λ (o : LoadedObject). P ys n o) own
    (subst (λ (k : ℕ). P ys k a) numbers (subst (λ (os : List LoadedObject). P os m a) objects p))

-- Names that begin alike are in the order of what stands behind that.
use Rattle.std.proofs.Common.{◌≡◌, ◌∙◌, ◌+◌, ◌++◌, ◌≤◌, ◌∷◌, [], ℕ, List, ap, arith, drop, length, refl, sym, take}
use Rattle.std.specs.Prelude.{All, slice_index_or}
use Rattle.std.specs.Cmp.Lexicographic.{slice_cmp}
use Rattle.std.specs.Ordering.{nat_cmp, ordering_then}
use Rattle.std.specs.declared.cmp.Ordering.{Ordering}
use Rattle.std.proofs.lemmas.List.{drop-drop, length-take, take-append-drop, take-take}
use Rattle.std.proofs.lemmas.List.Elements.{All-map, All-weaker}
use Rattle.linker.specs.NameKeys.{AreAlike, IsBegun, IsOrderBehind, behind_of, name_of, positions}
use Rattle.linker.specs.declared.name_order.Keyed.{Keyed}
use Rattle.linker.specs.declared.name_order.Names.{Names}
use Rattle.linker.proofs.NameKeyLaws.{is_equal}

behind_front : (front xs ys : List ℕ) → slice_cmp nat_cmp (front ++ xs) (front ++ ys) ≡ slice_cmp nat_cmp xs ys
behind_front [] xs ys = refl
behind_front (b ∷ bs) xs ys =
    ap (λ (o : Ordering). ordering_then o (slice_cmp nat_cmp (bs ++ xs) (bs ++ ys))) (is_equal b b refl) ∙ behind_front bs xs ys

parts : (front xs : List ℕ) → take (length front) xs ≡ front → xs ≡ front ++ drop (length front) xs
parts front xs begins = sym (take-append-drop (length front) xs) ∙ ap (λ (f : List ℕ). f ++ drop (length front) xs) begins

module _ (n : Names) (offset : ℕ) (front : List ℕ) where
  abbrev Begins : ℕ → Type 0
  Begins p = take (length front) (drop offset (name_of n p)) ≡ front

  two : (i j : ℕ) → Begins i → Begins j → IsOrderBehind n offset i j → IsOrderBehind n (offset + length front) i j
  two i j one other order =
      let a = drop offset (name_of n i) in
      let b = drop offset (name_of n j) in
      let c = length front in
      ap (λ (x : List ℕ). slice_cmp nat_cmp x (drop (offset + c) (name_of n j))) (drop_more (name_of n i))
      ∙ (ap (slice_cmp nat_cmp (drop c a)) (drop_more (name_of n j))
      ∙ (sym (behind_front front (drop c a) (drop c b))
      ∙ (ap (λ (x : List ℕ). slice_cmp nat_cmp x (front ++ drop c b)) (sym (parts front a one))
      ∙ (ap (slice_cmp nat_cmp a) (sym (parts front b other)) ∙ order))))
    where
      drop_more : (xs : List ℕ) → drop (offset + length front) xs ≡ drop (length front) (drop offset xs)
      drop_more xs = sym (drop-drop (length front) offset xs)

  pub alike_behind : (ks : List Keyed) → All (IsBegun n offset front) ks → AreAlike n offset (positions ks) → AreAlike n (offset + length front) (positions ks)
  alike_behind ks begun alike =
      let all : All Begins (positions ks) = All-map Begins (λ (k : Keyed). k.position) ks begun in
      λ k d low m e also.
      two (slice_index_or (positions ks) k d) (slice_index_or (positions ks) m e) (all k d low) (all m e also) (alike k d low m e also)

-- a text that is cut begins as the names did
cut : (front short xs : List ℕ) → take (length front) xs ≡ front → take (length short) front ≡ short → take (length short) xs ≡ short
cut front short xs begins within =
    let low : length short ≤ length front = shorter front short within in
    sym (take-take (length short) (length front) xs low) ∙ (ap (take (length short)) begins ∙ within)
  where
    shorter : (f s : List ℕ) → take (length s) f ≡ s → length s ≤ length f
    shorter f s e =
        let l = length-take (length s) f in
        let m = ap (λ (x : List ℕ). length x) e in
        omega (arith, l, m)

pub all_cut :
    (n : Names) (offset : ℕ) (front short : List ℕ) (ks : List Keyed) → take (length short) front ≡ short → All (IsBegun n offset front) ks →
    All (IsBegun n offset short) ks
all_cut n offset front short ks within all = All-weaker (IsBegun n offset front) (IsBegun n offset short) (λ k b. cut front short (behind_of n offset k) b within) ks all

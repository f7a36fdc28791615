-- One more row and one more piece in the indexes of the values of names and of the sizes of pieces.
use Rattle.std.proofs.Common.{◌≡◌, ◌∙◌, ℕ, ◌+◌, ◌<◌, ◌≤◌, ◌==◌, Bool, true, false, cond, List, length, drop, get_or, map, Option, Some, None, refl, sym, ap, subst}
use Rattle.std.specs.Prelude.{find, is_some, option_map}
use Rattle.std.specs.Borrow.{Bor}
use Rattle.std.specs.BTreeMap.{BTreeMap, UpdatesBy}
use Rattle.std.specs.Cmp.Lexicographic.{slice_cmp}
use Rattle.std.specs.Ordering.{nat_cmp}
use Rattle.std.specs.Str.{bytes_eq}
use Rattle.std.proofs.lemmas.Map.Text.{btree_map_updates_str}
use Rattle.std.proofs.lemmas.Slice.Eq.{bytes_eq-Decides}
use Rattle.check_link.specs.ByName.{found_in}
use Rattle.std.specs.Option.{option_map_or, option_or}
use Rattle.std.proofs.lemmas.List.{drop_all}
use Rattle.elf_model.proofs.Found.{none_found, or_none}
use Rattle.elf_model.proofs.Rests.{rest_at}

-- What an index has of the first element that passes a test, and what is found among those that are left.
module _ {X Y : Type 0} (view : X → Y) (value : Y → ℕ) (test : Y → Bool) (xs : List X) where
  pub first_more :
      (old new : Option ℕ) (i : ℕ) (d : X) → i < length xs →
      new ≡ option_or old (cond (test (view (get_or xs i d))) (Some (value (view (get_or xs i d)))) None) →
      option_or new (option_map value (find test (map view (drop (i + 1) xs)))) ≡ option_or old (option_map value (find test (map view (drop i xs))))
  first_more old new i d within e =
      ap (λ (o : Option ℕ). option_or o (option_map value (find test (map view (drop (i + 1) xs))))) e
      ∙ (by (test (view (get_or xs i d))) old ∙ sym (ap (λ (ys : List X). option_or old (option_map value (find test (map view ys)))) (rest_at xs i d within)))
    where
      by : (b : Bool) (o : Option ℕ) →
          option_or (option_or o (cond b (Some (value (view (get_or xs i d)))) None)) (option_map value (find test (map view (drop (i + 1) xs))))
          ≡ option_or o (option_map value (cond b (Some (view (get_or xs i d))) (find test (map view (drop (i + 1) xs)))))
      by true None = refl
      by true (Some x) = refl
      by false None = refl
      by false (Some x) = refl

  pub first_end :
      (o : Option ℕ) (i : ℕ) → length xs ≤ i →
      option_or o (option_map value (find test (map view (drop i xs)))) ≡ option_map value (find test (map view xs)) →
      o ≡ option_map value (find test (map view xs))
  first_end o i past all =
      sym (ap (λ (ys : List X). option_or o (option_map value (find test (map view ys)))) (drop_all i xs past) ∙ or_none o) ∙ all

-- whether a size that is found is 0
pub is_none : {X : Type 0} (size : X → ℕ) (o : Option X) → option_map_or (λ (n : ℕ). n == 0) (option_map size o) false ≡ option_map_or (λ x. size x == 0) o false
is_none size None = refl
is_none size (Some x) = refl

-- what an index by names finds once a name that it hasn't is put into it
put_first :
    (old new : Option ℕ) (same : Bool) (v : ℕ) → new ≡ cond same (Some v) old → (same ≡ true → old ≡ None) → new ≡ option_or old (cond same (Some v) None)
put_first old new true v e absent = e ∙ ap (λ (o : Option ℕ). option_or o (Some v)) (sym (absent refl))
put_first old new false v e absent = e ∙ sym (or_none old)

module _ (old new : BTreeMap (Bor (List ℕ)) ℕ) (name : List ℕ) (v : ℕ) where
  pub row_added :
      is_some (found_in old name) ≡ false → UpdatesBy (λ x y. slice_cmp nat_cmp x.now y.now) (λ k. slice_cmp nat_cmp name k.now) old new (Some v) →
      (n : List ℕ) → found_in new n ≡ option_or (found_in old n) (cond (bytes_eq name n) (Some v) None)
  row_added lacks updates n =
      put_first (found_in old n) (found_in new n) (bytes_eq name n) v (btree_map_updates_str name old new (Some v) updates n)
      (λ e. subst (λ (bytes : List ℕ). found_in old bytes ≡ None) ((bytes_eq-Decides name n).0 e) (none_found (found_in old name) lacks))

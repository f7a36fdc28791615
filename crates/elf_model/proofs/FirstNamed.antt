-- An index of what comes first of each name: what it finds once a name that it hasn't is put into it. What
-- stands in it is seen by a view.
use Rattle.std.proofs.Common.{◌≡◌, ◌∙◌, ap, sym, subst, refl, List, ℕ, Bool, true, false, cond, Option, Some, None, option_map}
use Rattle.std.specs.Prelude.{is_some}
use Rattle.std.specs.Borrow.{Bor}
use Rattle.std.specs.Option.{option_or}
use Rattle.std.specs.Str.{bytes_eq}
use Rattle.std.specs.BTreeMap.{BTreeMap, UpdatesBy, get_by}
use Rattle.std.specs.Cmp.Lexicographic.{slice_cmp}
use Rattle.std.specs.Ordering.{nat_cmp}
use Rattle.std.proofs.lemmas.Map.Text.{btree_map_updates_str}
use Rattle.std.proofs.lemmas.Slice.Eq.{bytes_eq-Decides}
use Rattle.elf_model.proofs.Found.{none_found, or_none}

module _ {X Y : Type 0} (view : X → Y) where
  inserted :
      (old new : Option X) (same : Bool) (v : X) → new ≡ cond same (Some v) old → (same ≡ true → old ≡ None) →
      option_map view new ≡ option_or (option_map view old) (cond {A = Option Y} same (Some (view v)) None)
  inserted old new true v e absent = ap (option_map view) e ∙ ap (λ (o : Option X). option_or (option_map view o) (Some (view v))) (sym (absent refl))
  inserted old new false v e absent = ap (option_map view) e ∙ sym (or_none (option_map view old))

  module _ (old new : BTreeMap (Bor (List ℕ)) X) (name : List ℕ) (v : X) where
    abbrev at : BTreeMap (Bor (List ℕ)) X → List ℕ → Option X
    at index n = get_by (λ k. slice_cmp nat_cmp n k.now) index

    pub first_added :
        is_some (get_by (λ k. slice_cmp nat_cmp name k.now) old) ≡ false →
        UpdatesBy (λ x y. slice_cmp nat_cmp x.now y.now) (λ k. slice_cmp nat_cmp name k.now) old new (Some v) →
        (n : List ℕ) →
        option_map view (get_by (λ k. slice_cmp nat_cmp n k.now) new)
        ≡ option_or (option_map view (get_by (λ k. slice_cmp nat_cmp n k.now) old)) (cond (bytes_eq name n) (Some (view v)) None)
    first_added lacks updates n =
        inserted (at old n) (at new n) (bytes_eq name n) v
        (btree_map_updates_str name old new (Some v) updates n)
        (λ e. subst (λ (bs : List ℕ). at old bs ≡ None) ((bytes_eq-Decides name n).0 e) (none_found (at old name) lacks))

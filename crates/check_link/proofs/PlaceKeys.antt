-- One more piece in the index of addresses by sections.
use Rattle.std.proofs.Common.{◌≡◌, ℕ, ◌+◌, ◌<◌, ◌==◌, ◌&&◌, Bool, true, false, cond, List, length, drop, get_or, Option, Some, None, refl, sym, ◌∙◌, ap, subst}
use Rattle.std.specs.Prelude.{find, is_some, option_map}
use Rattle.std.specs.HashMap.{Updates}
use Rattle.std.specs.Option.{option_or}
use Rattle.std.proofs.lemmas.Bool.{eqb-true}
use Rattle.elf_model.proofs.Rests.{rest_at}
use Rattle.elf_model.specs.Link.Placement as placement
use Rattle.elf_model.specs.Link.Placement.{is_of_section}
use Rattle.check_link.specs.PlaceIndex.{Addresses, address_in, is_same}
use Rattle.check_link.specs.Views.{placed_view, placed_views}
use Rattle.check_link.specs.declared.things.Placed.{Placed}

-- the test of a section tells that both numbers are its
both_equal : (a b c d : ℕ) → (a == c && b == d) ≡ true → (a ≡ c) × (b ≡ d)
both_equal a b c d e = by (a == c) refl e
  where
    by : (t : Bool) → (a == c) ≡ t → (t && b == d) ≡ true → (a ≡ c) × (b ≡ d)
    by true s f = (eqb-true a c s, eqb-true b d f)
    by false s f = absurd (cc)

-- the value at each key after a new key came in, where no key that is the same was there
put_first : (old new : Option ℕ) (same : Bool) (at : ℕ) → new ≡ cond same (Some at) old → (same ≡ true → old ≡ None) → new ≡ option_or old (cond same (Some at) None)
put_first old new true at e absent = e ∙ ap (λ (o : Option ℕ). option_or o (Some at)) (sym (absent refl))
put_first None new false at e absent = e
put_first (Some x) new false at e absent = e

module _ (old : Addresses) (o s at : ℕ) where
  -- the section of a piece is no key yet
  pub place_added :
      (new : Addresses) → Updates is_same old new (o, s) (Some at) → address_in old o s ≡ None → (object section : ℕ) →
      address_in new object section ≡ option_or (address_in old object section) (cond (o == object && s == section) (Some at) None)
  place_added new updates none object section =
      put_first (address_in old object section) (address_in new object section) (o == object && s == section) at
      (updates.0 (object, section))
      (λ e.
      let same = both_equal o s object section e in
      subst (λ (i : ℕ). address_in old object i ≡ None) same.1 (subst (λ (i : ℕ). address_in old i s ≡ None) same.0 none))

-- what is not found is none
pub no_address : (o : Option ℕ) → is_some o ≡ false → o ≡ None
no_address None e = refl
no_address (Some x) e = absurd (cc)

-- one piece more is in the index, and one less is left
pub place_step :
    (old new : Option ℕ) (object section : ℕ) (xs : List Placed) (i : ℕ) (d : Placed) → i < length xs →
    new ≡ option_or old (cond (is_of_section object section (placed_view (get_or xs i d))) (Some (get_or xs i d).at) None) →
    option_or new (option_map (λ q. q.at) (find (is_of_section object section) (placed_views (drop (i + 1) xs))))
    ≡ option_or old (option_map (λ q. q.at) (find (is_of_section object section) (placed_views (drop i xs))))
place_step old new object section xs i d low e =
    ap (λ (o : Option ℕ). option_or o (option_map at (find test (placed_views (drop (i + 1) xs))))) e
    ∙ (by (test (placed_view (get_or xs i d))) old
    ∙ sym (ap (λ (ys : List Placed). option_or old (option_map at (find test (placed_views ys)))) (rest_at xs i d low)))
  where
    at : placement.Placed → ℕ
    at q = q.at

    test : placement.Placed → Bool
    test q = is_of_section object section q

    by : (b : Bool) (o : Option ℕ) →
        option_or (option_or o (cond b (Some (get_or xs i d).at) None)) (option_map at (find test (placed_views (drop (i + 1) xs))))
        ≡ option_or o (option_map at (cond b (Some (placed_view (get_or xs i d))) (find test (placed_views (drop (i + 1) xs)))))
    by true None = refl
    by true (Some x) = refl
    by false None = refl
    by false (Some x) = refl

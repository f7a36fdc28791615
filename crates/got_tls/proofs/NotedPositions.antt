-- Positions of slots that are noted by the numbers of names, and slots that are added.
use Rattle.std.proofs.Common.{◌≡◌, ◌≢◌, ◌⊎◌, inl, inr, ℕ, zero, suc, ◌+◌, ◌<◌, ◌≤◌, ◌++◌, Bool, true, false, cond, List, [], ◌∷◌, Option, Some, None, length, get_or, refl, sym, ap, ◌∙◌, arith, subst}
use Rattle.std.specs.Prelude.{IsSomeAnd, replicate, set, slice_index_or, take}
use Rattle.std.specs.List.{list_any, slice_get}
use Rattle.std.proofs.lemmas.Bool.{cases_lt}
use Rattle.std.proofs.lemmas.List.{get_or-replicate, get_or-set_other, get_or-set_same, length-replicate, length-set, take_all}
use Rattle.std.proofs.lemmas.Option.{get_or_from_slice_get, none-some, slice_get-get_or, slice_get_within}
use Rattle.indexmap.specs.IndexSet.{insert_key}
use Rattle.elf_model.specs.Image.MapRecord.{OfName, TargetRow}
use Rattle.elf_model.specs.Link.Slots.{Request}
use Rattle.elf_model.proofs.SameRequests.{requests_equal}
use Rattle.got_tls.specs.Positions.{AreNoted, ArePositions, IsNoted, StandsAt}
use Rattle.got_tls.specs.Views.{owner_view, slot_view}
use Rattle.got_tls.specs.declared.slot.Slot.{Slot}
use Rattle.got_tls.specs.declared.slot_index.TheConstants.{NO_POSITION}
use Rattle.got_tls.proofs.Keys.{slot_eq, slot_same}

-- what stands at a number in front of what stands for none
in_front : (old : List ℕ) (m n p : ℕ) → slice_get (old ++ replicate m NO_POSITION) n ≡ Some p → p ≢ NO_POSITION → slice_get old n ≡ Some p
in_front [] m n p got some =
    let within = slice_get_within (replicate m NO_POSITION) n p got in
    let long = length-replicate m NO_POSITION in
    absurd (some (sym (get_or_from_slice_get (replicate m NO_POSITION) n p NO_POSITION got) ∙ get_or-replicate m n NO_POSITION NO_POSITION (omega (arith, within, long))))
in_front (x ∷ xs) m zero p got some = got
in_front (x ∷ xs) m (suc n) p got some = in_front xs m n p got some

-- room for more notes nothing, nor does a refusal of it
pub noted_before :
    (b : Bool) (old new : List ℕ) (count more : ℕ) → length old < count →
    new ≡ cond b (take count old ++ replicate more NO_POSITION) old → (n p : ℕ) → IsNoted new n p → IsNoted old n p
noted_before true old new count more short is n p noted =
    let longer : new ≡ old ++ replicate more NO_POSITION =
    is ∙ ap (λ (xs : List ℕ). xs ++ replicate more NO_POSITION) (take_all count old (omega (arith, short))) in
    record {
      there = in_front old more n p (ap (λ (xs : List ℕ). slice_get xs n) (sym longer) ∙ noted.there) noted.some;
      some = noted.some;
    }
noted_before false old new count more short is n p noted = record { there = ap (λ (xs : List ℕ). slice_get xs n) (sym is) ∙ noted.there; some = noted.some }

-- one position is written
pub noted_one : (number position : ℕ) (xs : List ℕ) → number < length xs → AreNoted number position xs (set xs number position)
noted_one number position xs low n p noted = by (cases_lt n number) (cases_lt number n)
  where
    is : get_or (set xs number position) n p ≡ p
    is = get_or_from_slice_get (set xs number position) n p p noted.there

    within : n < length xs
    within = let long = length-set xs number position in let inside = slice_get_within (set xs number position) n p noted.there in omega (arith, long, inside)

    other : (n ≡ number → ⊥) → IsNoted xs n p
    other differs = record {
      there = slice_get-get_or xs n p within ∙ ap (λ (k : ℕ). Some k) (sym (get_or-set_other xs number n position p differs) ∙ is);
      some = noted.some;
    }

    by : (n < number) ⊎ (number ≤ n) → (number < n) ⊎ (n ≤ number) → IsNoted xs n p ⊎ ((n ≡ number) × (p ≡ position))
    by (inl less) _ = inl (other (λ e. omega (arith, less, e)))
    by (inr _) (inl more) = inl (other (λ e. omega (arith, more, e)))
    by (inr up) (inr down) =
        let here : n ≡ number = omega (arith, up, down) in
        inr (here, sym is ∙ (ap (λ (k : ℕ). get_or (set xs number position) k p) here ∙ get_or-set_same xs number position p low))

-- a slot stays where it stands when another one is put behind
behind : (ks : List Slot) (x : Slot) (i : ℕ) (s : Slot) → slice_get ks i ≡ Some s → slice_get (ks ++ x ∷ []) i ≡ Some s
behind [] x i s got = absurd (none-some s got)
behind (k ∷ ks) x zero s got = got
behind (k ∷ ks) x (suc i) s got = behind ks x i s got

module _ (names : List (List ℕ)) where
  abbrev IsNamed : ℕ → Slot → Type 0
  IsNamed number s = owner_view s.owner ≡ OfName (slice_index_or names number [])

  stays : (ks : List Slot) (x : Slot) (number p : ℕ) → StandsAt names ks number p → StandsAt names (ks ++ x ∷ []) number p
  stays ks x number p at = by (slice_get ks p) refl at
    where
      by : (o : Option Slot) → slice_get ks p ≡ o → IsSomeAnd o (IsNamed number) → StandsAt names (ks ++ x ∷ []) number p
      by None got at = absurd at
      by (Some s) got at = subst (λ (o : Option Slot). IsSomeAnd o (IsNamed number)) (sym (behind ks x p s got)) at

  -- positions of slots are such of these with one more
  pub positions_with : (ks : List Slot) (x : Slot) (ps : List ℕ) → ArePositions names ks ps → ArePositions names (insert_key slot_eq ks x) ps
  positions_with ks x ps h number p noted = by (list_any (slot_eq x) ks)
    where
      by : (b : Bool) → StandsAt names (cond b ks (ks ++ x ∷ [])) number p
      by true = h number p noted
      by false = stays ks x number p (h number p noted)

  -- and where a position of a slot of the name is noted too
  pub positions_noted :
      (ks : List Slot) (old new : List ℕ) (number position : ℕ) → ArePositions names ks old → AreNoted number position old new →
      StandsAt names ks number position → ArePositions names ks new
  positions_noted ks old new number position h more at n p noted = by (more n p noted)
    where
      by : IsNoted old n p ⊎ ((n ≡ number) × (p ≡ position)) → StandsAt names ks n p
      by (inl before) = h n p before
      by (inr here) = subst (λ (m : ℕ). StandsAt names ks m p) (sym here.0) (subst (λ (q : ℕ). StandsAt names ks number q) (sym here.1) at)

  -- a slot that stands at a position in place of an equal one of the name
  pub stands_stored :
      (ks : List Slot) (slot stored : Slot) (number position : ℕ) → slice_get ks position ≡ Some stored → slot_eq slot stored ≡ true →
      (slot_view slot).target ≡ OfName (slice_index_or names number []) → StandsAt names ks number position
  stands_stored ks slot stored number position there same is =
      let equal : slot_view slot ≡ slot_view stored = requests_equal (slot_view slot) (slot_view stored) (sym (slot_same slot stored) ∙ same) in
      subst (λ (o : Option Slot). IsSomeAnd o (IsNamed number)) (sym there) (ap (λ (q : Request). q.target) (sym equal) ∙ is)

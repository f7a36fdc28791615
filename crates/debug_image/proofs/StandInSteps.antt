-- What stands for dropped sections, with one more section, one more group, and one more object.
use Rattle.std.proofs.Common.{◌≡◌, ◌+◌, ◌<◌, ◌≤◌, ◌⊎◌, ◌∙◌, ◌++◌, ◌∷◌, [], ℕ, Bool, true, false, cond, ◌||◌, List, Option, None, Some, ap, arith, get_or, inl, inr, length, option_map, refl, subst, suc, sym, take, zero}
use Rattle.std.specs.Prelude.{find, nat_eq}
use Rattle.std.specs.BTreeMap.{get}
use Rattle.std.specs.List.{list_any, slice_get}
use Rattle.std.specs.Option.{is_some, option_and_then, option_map_or, option_or}
use Rattle.std.specs.Ordering.{nat_cmp}
use Rattle.std.proofs.lemmas.Bool.{eq-eqb, eqb-true, false≢true}
use Rattle.std.proofs.lemmas.List.Folds.{list_any_more}
use Rattle.std.proofs.lemmas.Option.{none-some, same_Some, slice_get_cases, slice_get_within}
use Rattle.elf_model.specs.Inputs.ObjectFile.{Group}
use Rattle.elf_model.specs.Link.Loading.{LoadedObject, is_dropped}
use Rattle.elf_model.specs.declared.references.SectionRef.{SectionRef}
use Rattle.search.specs.Views.{loaded_view, loaded_views}
use Rattle.search.specs.declared.loaded.LoadedObject as code
use Rattle.debug_image.specs.DebugSections.{is_flagged}
use Rattle.debug_image.specs.KeptGroups.{ObjectGroup, lists, member_like, stand_in}
use Rattle.debug_image.specs.KeptTables.{AreStandIns, IsStandIn, StandInTable, same_option, stand_in_at}
use Rattle.debug_image.proofs.KeptSteps.{at_behind, find_behind, or_none}

module _ (o : LoadedObject) (h : Option ObjectGroup) where
  -- what a group that was found has for a section
  abbrev pub for_section : ℕ → Option SectionRef
  for_section m = option_and_then (member_like o m) h

  -- one more section, which isn't dropped, is known, or is added
  pub undropped : (o_m : Option (Option SectionRef)) (n m : ℕ) → is_dropped o n ≡ false → is_dropped o m ≡ true → o_m ≡ option_or o_m (cond (nat_eq m n) (Some (for_section m)) None)
  undropped o_m n m kept gone = by (nat_eq m n) refl
    where
      by : (b : Bool) → nat_eq m n ≡ b → o_m ≡ option_or o_m (cond b (Some (for_section m)) None)
      by false e = sym (or_none o_m)
      by true e = absurd (false≢true (sym kept ∙ (ap (is_dropped o) (sym (eqb-true m n e)) ∙ gone)))

  pub known : (t : StandInTable) (n m : ℕ) → is_some (get nat_cmp t n) ≡ true → get nat_cmp t m ≡ option_or (get nat_cmp t m) (cond (nat_eq m n) (Some (for_section m)) None)
  known t n m there = by (nat_eq m n) refl
    where
      some : (x : Option (Option SectionRef)) (v : Option SectionRef) → is_some x ≡ true → x ≡ option_or x (Some v)
      some None v e = absurd (false≢true e)
      some (Some y) v e = refl

      by : (b : Bool) → nat_eq m n ≡ b → get nat_cmp t m ≡ option_or (get nat_cmp t m) (cond b (Some (for_section m)) None)
      by false e = sym (or_none (get nat_cmp t m))
      by true e = some (get nat_cmp t m) (for_section m) (ap (λ (k : ℕ). is_some (get nat_cmp t k)) (eqb-true m n e) ∙ there)

  pub added :
      (t new : StandInTable) (n m : ℕ) (w : Option SectionRef) → is_some (get nat_cmp t n) ≡ false → w ≡ for_section n →
      get nat_cmp new m ≡ cond (nat_eq n m) (Some w) (get nat_cmp t m) →
      get nat_cmp new m ≡ option_or (get nat_cmp t m) (cond (nat_eq m n) (Some (for_section m)) None)
  added t new n m w none is updated = updated ∙ by (nat_eq n m) (nat_eq m n) refl refl
    where
      gone : (x : Option (Option SectionRef)) → is_some x ≡ false → x ≡ None
      gone None e = refl
      gone (Some y) e = absurd (false≢true (sym e))

      by :
          (a b : Bool) → nat_eq n m ≡ a → nat_eq m n ≡ b →
          cond a (Some w) (get nat_cmp t m) ≡ option_or (get nat_cmp t m) (cond b (Some (for_section m)) None)
      by true true e f =
          ap Some (is ∙ ap for_section (eqb-true n m e))
          ∙ ap (λ (x : Option (Option SectionRef)). option_or x (Some (for_section m))) (sym (ap (get nat_cmp t) (eqb-true m n f) ∙ gone (get nat_cmp t n) none))
      by false false e f = sym (or_none (get nat_cmp t m))
      by true false e f = absurd (false≢true (sym f ∙ eq-eqb m n (sym (eqb-true n m e))))
      by false true e f = absurd (false≢true (sym e ∙ eq-eqb n m (sym (eqb-true m n f))))

joined_or : {X : Type 0} (a : Option X) (b c : Bool) (v : X) → option_or (option_or a (cond b (Some v) None)) (cond c (Some v) None) ≡ option_or a (cond (b || c) (Some v) None)
joined_or (Some x) b c v = refl
joined_or None true c v = refl
joined_or None false c v = refl

-- one more member of a group
pub members_more :
    (start now new : Option (Option SectionRef)) (m : ℕ) (ms : List ℕ) (i : ℕ) (d : ℕ) (v : Option SectionRef) → i < length ms →
    now ≡ option_or start (cond (list_any (nat_eq m) (take i ms)) (Some v) None) → new ≡ option_or now (cond (nat_eq m (get_or ms i d)) (Some v) None) →
    new ≡ option_or start (cond (list_any (nat_eq m) (take (i + 1) ms)) (Some v) None)
members_more start now new m ms i d v within is more =
    more
    ∙ (ap (λ (x : Option (Option SectionRef)). option_or x (cond (nat_eq m (get_or ms i d)) (Some v) None)) is
    ∙ (joined_or start (list_any (nat_eq m) (take i ms)) (nat_eq m (get_or ms i d)) v
    ∙ ap (λ (b : Bool). option_or start (cond b (Some v) None)) (sym (list_any_more (nat_eq m) ms i d within))))

-- one more group
pub groups_more :
    (f : Group → Option SectionRef) (m : ℕ) (first next : List Group) (g : Group) (now new : Option (Option SectionRef)) → next ≡ first ++ g ∷ [] →
    now ≡ option_map f (find (lists m) first) → new ≡ option_or now (cond (lists m g) (Some (f g)) None) →
    new ≡ option_map f (find (lists m) next)
groups_more f m first next g now new is so_far more =
    more
    ∙ (ap (λ (x : Option (Option SectionRef)). option_or x (cond (lists m g) (Some (f g)) None)) so_far
    ∙ (by (find (lists m) first) (lists m g)
    ∙ sym (ap (λ (hs : List Group). option_map f (find (lists m) hs)) is ∙ ap (option_map f) (find_behind (lists m) first g))))
  where
    by : (a : Option Group) (b : Bool) → option_or (option_map f a) (cond b (Some (f g)) None) ≡ option_map f (option_or a (cond b (Some g) None))
    by (Some h) b = refl
    by None true = refl
    by None false = refl

pub flat : (f : Group → Option SectionRef) (g : Option Group) → option_and_then same_option (option_map f g) ≡ option_and_then f g
flat f None = refl
flat f (Some g) = refl

-- one more object
pub tables_more :
    (objects : List LoadedObject) (ts new : List StandInTable) (t : StandInTable) (o : LoadedObject) → new ≡ ts ++ t ∷ [] →
    slice_get objects (length ts) ≡ Some o → IsStandIn objects o t →
    ((k : ℕ) (p : LoadedObject) (u : StandInTable) → slice_get objects k ≡ Some p → slice_get ts k ≡ Some u → IsStandIn objects p u) →
    (k : ℕ) (p : LoadedObject) (u : StandInTable) → slice_get objects k ≡ Some p → slice_get new k ≡ Some u → IsStandIn objects p u
tables_more objects ts new t o is here right each k p u of_p of_u =
    by (slice_get ts k) refl (nat_eq (length ts) k) refl (sym (ap (λ (xs : List StandInTable). slice_get xs k) is ∙ at_behind ts t k) ∙ of_u)
  where
    by :
        (a : Option StandInTable) → slice_get ts k ≡ a → (b : Bool) → nat_eq (length ts) k ≡ b → option_or (slice_get ts k) (cond b (Some t) None) ≡ Some u → IsStandIn objects p u
    by (Some v) at b e found = each k p u of_p (at ∙ (ap (λ (x : Option StandInTable). option_or x (cond b (Some t) None)) (sym at) ∙ found))
    by None at false e found = absurd (none-some u (ap (λ (x : Option StandInTable). option_or x None) (sym at) ∙ found))
    by None at true e found =
        let same_t : t ≡ u = same_Some t u (ap (λ (x : Option StandInTable). option_or x (Some t)) (sym at) ∙ found) in
        let same_o : o ≡ p = same_Some o p (sym here ∙ (ap (slice_get objects) (eqb-true (length ts) k e) ∙ of_p)) in
        subst (λ (q : LoadedObject). IsStandIn objects q u) same_o (subst (IsStandIn objects o) same_t right)

-- the flag of a kept group's object
pub flag_of : (flags : List Bool) (found : Option ℕ) (g : Option ObjectGroup) → found ≡ option_map (λ h. h.object) g → option_map_or (is_flagged flags) found false ≡ option_map_or (λ h. is_flagged flags h.object) g false
flag_of flags found None is = ap (λ (x : Option ℕ). option_map_or (is_flagged flags) x false) is
flag_of flags found (Some h) is = ap (λ (x : Option ℕ). option_map_or (is_flagged flags) x false) is

-- what the tables say of a dropped section
pub told : (objects : List LoadedObject) (ts : List StandInTable) → AreStandIns objects ts → (k n : ℕ) (o : LoadedObject) → slice_get objects k ≡ Some o → is_dropped o n ≡ true →
    option_and_then (λ t. stand_in_at t n) (slice_get ts k) ≡ stand_in objects o n
told objects ts are k n o here gone = by (slice_get ts k) refl
  where
    within : k < length ts
    within = let low = slice_get_within objects k o here in let same = are.count in omega (arith, low, same)

    by : (t : Option StandInTable) → slice_get ts k ≡ t → option_and_then (λ (u : StandInTable). stand_in_at u n) t ≡ stand_in objects o n
    by (Some t) is = are.each k o t here is n gone
    by None is = absurd (missing (slice_get_cases ts k).1)
      where
        missing : ((x : StandInTable) × (k < length ts) × (slice_get ts k ≡ Some x) × (get_or ts k x ≡ x)) ⊎ ((length ts ≤ k) × (slice_get ts k ≡ None)) → ⊥
        missing (inl t) = none-some t.0 (sym is ∙ t.2)
        missing (inr p) = let past = p.0 in omega (arith, past, within)

-- the object at a number
pub object_at : (os : List code.LoadedObject) (i : ℕ) (d : code.LoadedObject) → i < length os → d ≡ get_or os i d → slice_get (loaded_views os) i ≡ Some (loaded_view d)
object_at [] i d within is = absurd (omega (arith, within))
object_at (o ∷ os) zero d within is = ap (λ (x : code.LoadedObject). Some (loaded_view x)) (sym is)
object_at (o ∷ os) (suc i) d within is = object_at os i d (omega (arith, within)) is

-- Fields that rise, compared as they come: what is matched of a piece with one field more, and of an object with one piece more.
use Rattle.std.proofs.Common.{◌≡◌, ℕ, ◌+◌, ◌<◌, ◌≤◌, ◌-◌, ◌⊎◌, inl, inr, Bool, true, false, cond, List, [], ◌∷◌, ◌++◌, Option, Some, None, map, refl, sym, ap, subst, ◌∙◌, arith, suc, length, get_or, take}
use Rattle.std.specs.Prelude.{All, IfSome, SomeIff, find, slice_index}
use Rattle.std.specs.Option.{option_or}
use Rattle.std.proofs.lemmas.Bool.Decides.{nat_tests}
use Rattle.std.proofs.lemmas.List.{append-nil, append_assoc, map-append}
use Rattle.std.proofs.lemmas.List.Elements.{All-append, All-cons, All-nil, All-weaker}
use Rattle.std.proofs.lemmas.Grind.{flat_map-append}
use Rattle.std.proofs.lemmas.List.Folds.{find-append}
use Rattle.std.proofs.Math.Seq.{take-suc}
use Rattle.elf_model.proofs.Finding.{find-none}
use Rattle.elf_model.proofs.Pairs.{AllPairs-append, AllPairs-nil}
use Rattle.elf_model.proofs.RelocationFields.{width_some}
use Rattle.elf_model.specs.Link.Relocation.{Relocation}
use Rattle.check_load.specs.KeptRelocations.{relocations_of_rela, relocations_of_relas}
use Rattle.check_load.specs.declared.kept_relocations.KeptRelocation.{KeptRelocation}
use Rattle.check_load.specs.declared.kept_sections.KeptRela.{KeptRela}
use Rattle.check_link.proofs.Padded.{below_or_not}
use Rattle.check_link.specs.SameRuns.{AreSame}
use Rattle.check_relocs.specs.Bytes.{EndsBefore, byte_of, covers}
use Rattle.check_relocs.specs.Fields.{IsRight, field_of}
use Rattle.check_relocs.specs.Referrers.{object_here, objects_here, relocation_here}
use Rattle.check_relocs.specs.declared.fields.Field.{Field}
use Rattle.check_relocs.specs.declared.referrer.Referrer.{Referrer}
use Rattle.checker.specs.Rising.{AreMatched, AreRightHere, Follows, MatchesOn, fields_here, fields_of, relocations_of}

off_field : (k : ℕ) (f : Field) → (k < f.at) ⊎ (f.at + f.width ≤ k) → covers k f ≡ false
off_field k f (inl low) = grind (arith, nat_tests)
off_field k f (inr high) = grind (arith, nat_tests)

on_field : (k : ℕ) (f : Field) → f.at ≤ k → k < f.at + f.width → covers k f ≡ true
on_field k f low high = grind (arith, nat_tests)

pub matched_none : (held bytes : List ℕ) → AreMatched held bytes [] 0
matched_none held bytes = record {
  wanted = λ k low high. absurd (omega (arith, high));
  ended = All-nil (λ (f : Field). f.at + f.width ≤ 0);
  rising = AllPairs-nil EndsBefore;
}

module _ (held bytes : List ℕ) (fs : List Field) (end : ℕ) (m : AreMatched held bytes fs end) where
  -- no field of those that are matched has a byte from their end on
  none_from : (k : ℕ) → end ≤ k → find (covers k) fs ≡ None
  none_from k high =
      find-none (covers k) fs
      (All-weaker (λ (g : Field). g.at + g.width ≤ end) (λ g. covers k g ≡ false) (λ g low. off_field k g (inr (omega (arith, low, high)))) fs m.ended)

  pub matched_whole : (size : ℕ) → AreSame held bytes end size → (k : ℕ) → k < size → slice_index held k ≡ byte_of bytes k (find (covers k) fs)
  matched_whole size same k low = by (below_or_not k end)
    where
      by : (k < end) ⊎ (end ≤ k) → slice_index held k ≡ byte_of bytes k (find (covers k) fs)
      by (inl below) = m.wanted k (omega arith) below
      by (inr high) = same k high low ∙ sym (ap (byte_of bytes k) (none_from k high))

  module _ (f : Field) (h : Follows held bytes end f) where
    -- off the field one finds what one found before, and from the end on the field alone
    off : (k : ℕ) → (k < f.at) ⊎ (f.at + f.width ≤ k) → find (covers k) (fs ++ f ∷ []) ≡ find (covers k) fs
    off k where_k =
        find-append (covers k) fs (f ∷ [])
        ∙ (ap (λ (b : Bool). option_or (find (covers k) fs) (cond b (Some f) None)) (off_field k f where_k)
        ∙ or_none (find (covers k) fs))
      where
        or_none : (o : Option Field) → option_or o None ≡ o
        or_none None = refl
        or_none (Some x) = refl

    on : (k : ℕ) → f.at ≤ k → k < f.at + f.width → find (covers k) (fs ++ f ∷ []) ≡ Some f
    on k low high =
        find-append (covers k) fs (f ∷ [])
        ∙ (ap (λ (o : Option Field). option_or o (find (covers k) (f ∷ []))) (none_from k (let b = h.behind in omega (arith, b, low)))
        ∙ ap (λ (b : Bool). cond b (Some f) None) (on_field k f low high))

    wanted_at : (k : ℕ) → k < f.at + f.width → slice_index held k ≡ byte_of bytes k (find (covers k) (fs ++ f ∷ []))
    wanted_at k top = by (below_or_not k end) (below_or_not k f.at)
      where
        by : (k < end) ⊎ (end ≤ k) → (k < f.at) ⊎ (f.at ≤ k) → slice_index held k ≡ byte_of bytes k (find (covers k) (fs ++ f ∷ []))
        by (inl below) other =
            m.wanted k (omega arith) below ∙ sym (ap (byte_of bytes k) (off k (inl (let b = h.behind in omega (arith, b, below)))))
        by (inr high) (inl below) =
            h.front k high below ∙ sym (ap (byte_of bytes k) (off k (inl below) ∙ none_from k high))
        by (inr high) (inr low) =
            let e : f.at + (k - f.at) ≡ k = omega (arith, low) in
            ap (slice_index held) (sym e)
            ∙ (h.value (k - f.at) (omega (arith, low, top)) ∙ sym (ap (byte_of bytes k) (on k low top)))

    pub matched_more : AreMatched held bytes (fs ++ f ∷ []) (f.at + f.width)
    matched_more = record {
      wanted = λ k low top. wanted_at k top;
      ended =
          All-append (λ (g : Field). g.at + g.width ≤ f.at + f.width) fs (f ∷ [])
          (All-weaker (λ (g : Field). g.at + g.width ≤ end) (λ g. g.at + g.width ≤ f.at + f.width) (λ g low. let b = h.behind in omega (arith, b, low)) fs m.ended)
          (All-cons (λ (g : Field). g.at + g.width ≤ f.at + f.width) f [] (omega arith) (All-nil (λ (g : Field). g.at + g.width ≤ f.at + f.width)));
      rising =
          AllPairs-append EndsBefore fs (f ∷ []) m.rising
          (λ i j d low high. absurd (omega (arith, low, high)))
          (All-weaker (λ (g : Field). g.at + g.width ≤ end) (λ g. All (EndsBefore g) (f ∷ []))
          (λ g low. All-cons (EndsBefore g) f [] (let b = h.behind in omega (arith, b, low)) (All-nil (EndsBefore g))) fs m.ended);
    }

-- What is left of the relocations of a RELA section: once these are right and matched, all are.
pub record EntriesLeft (r : Referrer) (held bytes : List ℕ) (from : ℕ) (whole left : List Relocation) (end : ℕ) : Type 0 where
  pub right : AreRightHere r left → AreRightHere r whole
  pub matched : (last : ℕ) → MatchesOn r held bytes end left last → MatchesOn r held bytes from whole last

module _ (r : Referrer) (held bytes : List ℕ) (from : ℕ) (whole : List Relocation) where
  pub all_left : (left : List Relocation) → left ≡ whole → EntriesLeft r held bytes from whole left from
  all_left left same = record {
    right = λ h. subst (AreRightHere r) same h;
    matched = λ last h. subst (λ (rs : List Relocation). MatchesOn r held bytes from rs last) same h;
  }

  module _ (left : List Relocation) (end : ℕ) (so_far : EntriesLeft r held bytes from whole left end) where
    pub left_same : (more : List Relocation) → left ≡ more → EntriesLeft r held bytes from whole more end
    left_same more same = subst (λ (rs : List Relocation). EntriesLeft r held bytes from whole rs end) same so_far

    -- one relocation more is right and matched
    pub left_more :
        (x : Relocation) (more : List Relocation) (next : ℕ) → left ≡ x ∷ more →
        IsRight (objects_here r) r.bindings.now.places x → MatchesOn r held bytes end (x ∷ []) next → EntriesLeft r held bytes from whole more next
    left_more x more next parts right here = record {
      right = λ h. so_far.right (subst (AreRightHere r) (sym parts) (All-cons (IsRight (objects_here r) r.bindings.now.places) x more right h));
      matched = λ last h. so_far.matched last
          (subst (λ (rs : List Relocation). MatchesOn r held bytes end rs last) (sym parts)
          (λ fs m. subst (λ (gs : List Field). AreMatched held bytes gs last)
          (append_assoc fs (fields_here r (x ∷ [])) (fields_here r more))
          (h (fs ++ fields_here r (x ∷ [])) (here fs m))));
    }

    pub left_none : left ≡ [] → AreRightHere r whole × MatchesOn r held bytes from whole end
    left_none none = (
      so_far.right (subst (AreRightHere r) (sym none) (All-nil (IsRight (objects_here r) r.bindings.now.places))),
      so_far.matched end
          (subst (λ (rs : List Relocation). MatchesOn r held bytes end rs end) (sym none)
          (λ fs m. subst (λ (gs : List Field). AreMatched held bytes gs end) (sym (append-nil fs)) m)),
    )

-- one relocation, by its field
pub matched_one :
    (r : Referrer) (held bytes : List ℕ) (from : ℕ) (x : Relocation) (f : Field) → f ≡ field_of (objects_here r) r.bindings.now.places x →
    Follows held bytes from f → MatchesOn r held bytes from (x ∷ []) (f.at + f.width)
matched_one r held bytes from x f is h fs m =
    subst (λ (g : Field). AreMatched held bytes (fs ++ g ∷ []) (f.at + f.width)) is (matched_more held bytes fs from m f h)

-- a right relocation's field has at most eight bytes, and ends within its section
pub narrow :
    (r : Referrer) (x : Relocation) (f : Field) → f ≡ field_of (objects_here r) r.bindings.now.places x →
    IsRight (objects_here r) r.bindings.now.places x → f.width ≤ 8
narrow r x f is right = subst (λ (g : Field). g.width ≤ 8) (sym is) (width_some x right.lawful.known).1

-- what holds of a value holds of an answer that is this value or none
pub if_told : {X : Type 0} (Q : X → Type 0) (o : Option X) (P : Type 0) (v : X) → SomeIff o P v → Q v → IfSome o Q
if_told Q None P v h q = tt
if_told Q (Some x) P v h q = subst Q (sym h.1) q

-- the relocations of some RELA sections and of others
pub relocations_joined : (r : Referrer) (js ks : List KeptRela) → relocations_of r (js ++ ks) ≡ relocations_of r js ++ relocations_of r ks
relocations_joined r js ks =
    ap (map (relocation_here r)) (flat_map-append (relocations_of_rela (object_here r).bytes) js ks)
    ∙ map-append (relocation_here r) (relocations_of_relas (object_here r).bytes js) (relocations_of_relas (object_here r).bytes ks)

pub fields_joined : (r : Referrer) (js ks : List KeptRela) → fields_of r (js ++ ks) ≡ fields_of r js ++ fields_of r ks
fields_joined r js ks =
    ap (fields_here r) (relocations_joined r js ks)
    ∙ map-append (field_of (objects_here r) r.bindings.now.places) (relocations_of r js) (relocations_of r ks)

-- the relocations of the first RELA sections, with those of one more
module _ (r : Referrer) (ks : List KeptRela) (i : ℕ) (d : KeptRela) (within : i < length ks) where
  abbrev here : List Relocation
  here = map (relocation_here r) (relocations_of_rela (object_here r).bytes (get_or ks i d))

  one_more : take (i + 1) ks ≡ take i ks ++ get_or ks i d ∷ []
  one_more = let e : i + 1 ≡ suc i = omega arith in rw e (take-suc ks i d within)

  relocations_more : relocations_of r (take (i + 1) ks) ≡ relocations_of r (take i ks) ++ here
  relocations_more =
      ap (relocations_of r) one_more
      ∙ (relocations_joined r (take i ks) (get_or ks i d ∷ [])
      ∙ ap (λ (rs : List KeptRelocation). relocations_of r (take i ks) ++ map (relocation_here r) rs)
      (append-nil (relocations_of_rela (object_here r).bytes (get_or ks i d))))

  pub right_more : AreRightHere r (relocations_of r (take i ks)) → AreRightHere r here → AreRightHere r (relocations_of r (take (i + 1) ks))
  right_more first more =
      subst (AreRightHere r) (sym relocations_more)
      (All-append (IsRight (objects_here r) r.bindings.now.places) (relocations_of r (take i ks)) here first more)

  pub fields_more : (held bytes : List ℕ) (from end : ℕ) → AreMatched held bytes (fields_of r (take i ks)) from → MatchesOn r held bytes from here end →
      AreMatched held bytes (fields_of r (take (i + 1) ks)) end
  fields_more held bytes from end first more =
      subst (λ (fs : List Field). AreMatched held bytes fs end)
      (sym (ap (fields_here r) relocations_more ∙ map-append (field_of (objects_here r) r.bindings.now.places) (relocations_of r (take i ks)) here))
      (more (fields_of r (take i ks)) first)

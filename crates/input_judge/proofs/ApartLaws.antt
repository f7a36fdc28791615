-- Fields that are apart, by their bytes, and object by object.
use Rattle.std.proofs.Common.{◌≡◌, ℕ, ◌+◌, ◌≤◌, ◌==◌, ◌&&◌, Bool, true, false, not, cond, List, [], ◌∷◌, ◌++◌, ap, arith, get_or, refl, subst, sym, ◌∙◌}
use Rattle.std.specs.Prelude.{◌↔◌, All, AllPairs, filter}
use Rattle.std.specs.List.{flat_map}
use Rattle.std.proofs.lemmas.Bool.{eqb-false, eqb-true, false≢true}
use Rattle.std.proofs.lemmas.List.Elements.{All-append, All-cons, All-filter, All-head, All-nil, All-tail, All-weaker, filter-append}
use Rattle.std.proofs.lemmas.List.Kept.{AllPairs-cons}
use Rattle.elf_model.proofs.Pairs.{AllPairs-append, AllPairs-head, AllPairs-nil, AllPairs-parts, AllPairs-tail}
use Rattle.elf_model.proofs.RelocationFields.{later_objects, own_object}
use Rattle.elf_model.proofs.Rests.{Left}
use Rattle.elf_model.specs.Link.Loading.{LoadedObject}
use Rattle.elf_model.specs.Link.Relocation.{Relocation, relocations_from, relocations_of}
use Rattle.elf_model.specs.declared.link_map.DropLine.{DropLine}
use Rattle.judge_model.specs.Fields.{AreFieldsApart, place_width}
use Rattle.input_judge.specs.Apart.{AreApart, HasByte, bytes_of_field, field_bytes, is_in_image}
use Rattle.input_judge.specs.declared.fields_apart.FieldBytes.{FieldBytes}

module _ (drops : List DropLine) where
  abbrev fields : List Relocation → List FieldBytes
  fields rs = flat_map (bytes_of_field drops) rs

  abbrev kept : List Relocation → List Relocation
  kept rs = filter (is_in_image drops) rs

  -- each of them has a byte
  own_bytes : (r : Relocation) → All HasByte (bytes_of_field drops r)
  own_bytes r = by (is_in_image drops r) (place_width r == 0) refl
    where
      by : (b w : Bool) → (place_width r == 0) ≡ w → All HasByte (cond (b && not w) (field_bytes r ∷ []) [])
      by false w e = All-nil HasByte
      by true true e = All-nil HasByte
      by true false e =
          let some = eqb-false (place_width r) 0 e in
          All-cons HasByte (field_bytes r) [] (omega (arith, some)) (All-nil HasByte)

  -- those of one relocation
  pub no_bytes : (r : Relocation) → place_width r ≡ 0 → bytes_of_field drops r ≡ []
  no_bytes r none = by (is_in_image drops r) (place_width r == 0) refl
    where
      by : (b w : Bool) → (place_width r == 0) ≡ w → cond (b && not w) (field_bytes r ∷ []) [] ≡ []
      by false w e = refl
      by true true e = refl
      by true false e = absurd (eqb-false (place_width r) 0 e none)

  pub some_bytes : (r : Relocation) → is_in_image drops r ≡ true → (place_width r ≡ 0 → ⊥) → bytes_of_field drops r ≡ field_bytes r ∷ []
  some_bytes r kept some = by (is_in_image drops r) (place_width r == 0) kept refl
    where
      by : (b w : Bool) → b ≡ true → (place_width r == 0) ≡ w → cond (b && not w) (field_bytes r ∷ []) [] ≡ field_bytes r ∷ []
      by false w k e = absurd (false≢true k)
      by true true k e = absurd (some (eqb-true (place_width r) 0 e))
      by true false k e = refl

  pub have_bytes : (rs : List Relocation) → All HasByte (fields rs)
  have_bytes [] = All-nil HasByte
  have_bytes (r ∷ rs) = All-append HasByte (bytes_of_field drops r) (fields rs) (own_bytes r) (have_bytes rs)

  -- a place without a byte is apart from all
  empty_left : (r s : Relocation) → place_width r ≡ 0 → AreFieldsApart r s
  empty_left r s none object section k in_r in_s = let a = in_r.0 in let b = in_r.1 in omega (arith, a, b, none)

  empty_right : (r s : Relocation) → place_width s ≡ 0 → AreFieldsApart r s
  empty_right r s none object section k in_r in_s = let a = in_s.0 in let b = in_s.1 in omega (arith, a, b, none)

  module _ (number : ℕ) where
    abbrev IsOwn : Relocation → Type 0
    IsOwn r = r.object ≡ number

    -- one field and others
    cross_to : (r : Relocation) (ss : List Relocation) → All (AreApart (field_bytes r)) (fields ss) → All (AreFieldsApart r) (kept ss)
    cross_to r [] all = All-nil (AreFieldsApart r)
    cross_to r (s ∷ ss) all = by (is_in_image drops s) (place_width s == 0) refl all (cross_to r ss)
      where
        by : (b w : Bool) → (place_width s == 0) ≡ w → All (AreApart (field_bytes r)) (cond (b && not w) (field_bytes s ∷ []) [] ++ fields ss) →
            (All (AreApart (field_bytes r)) (fields ss) → All (AreFieldsApart r) (kept ss)) → All (AreFieldsApart r) (cond b (s ∷ kept ss) (kept ss))
        by false w e h rest = rest h
        by true true e h rest = All-cons (AreFieldsApart r) s (kept ss) (empty_right r s (eqb-true (place_width s) 0 e)) (rest h)
        by true false e h rest =
            let first = All-head (AreApart (field_bytes r)) (field_bytes s) (fields ss) h in
            All-cons (AreFieldsApart r) s (kept ss) (λ object section k in_r in_s. first section k in_r.0 in_r.1 in_s.0 in_s.1)
            (rest (All-tail (AreApart (field_bytes r)) (field_bytes s) (fields ss) h))

    cross_back : (r : Relocation) (ss : List Relocation) → IsOwn r → All IsOwn ss → All (AreFieldsApart r) (kept ss) → All (AreApart (field_bytes r)) (fields ss)
    cross_back r [] own owns all = All-nil (AreApart (field_bytes r))
    cross_back r (s ∷ ss) own owns all = by (is_in_image drops s) (place_width s == 0) refl all (cross_back r ss own (All-tail IsOwn s ss owns))
      where
        by : (b w : Bool) → (place_width s == 0) ≡ w → All (AreFieldsApart r) (cond b (s ∷ kept ss) (kept ss)) →
            (All (AreFieldsApart r) (kept ss) → All (AreApart (field_bytes r)) (fields ss)) →
            All (AreApart (field_bytes r)) (cond (b && not w) (field_bytes s ∷ []) [] ++ fields ss)
        by false w e h rest = rest h
        by true true e h rest = rest (All-tail (AreFieldsApart r) s (kept ss) h)
        by true false e h rest =
            let first = All-head (AreFieldsApart r) s (kept ss) h in
            let same = own ∙ sym (All-head IsOwn s ss owns) in
            All-cons (AreApart (field_bytes r)) (field_bytes s) (fields ss) (λ section k a b c d. first same section k (a, b) (c, d))
            (rest (All-tail (AreFieldsApart r) s (kept ss) h))

    -- all of them
    pub pairs_to : (rs : List Relocation) → AllPairs AreApart (fields rs) → AllPairs AreFieldsApart (kept rs)
    pairs_to [] pairs = AllPairs-nil AreFieldsApart
    pairs_to (r ∷ rs) pairs = by (is_in_image drops r) (place_width r == 0) refl pairs (pairs_to rs)
      where
        by : (b w : Bool) → (place_width r == 0) ≡ w → AllPairs AreApart (cond (b && not w) (field_bytes r ∷ []) [] ++ fields rs) →
            (AllPairs AreApart (fields rs) → AllPairs AreFieldsApart (kept rs)) → AllPairs AreFieldsApart (cond b (r ∷ kept rs) (kept rs))
        by false w e h rest = rest h
        by true true e h rest =
            AllPairs-cons AreFieldsApart r (kept rs) (λ k d low. empty_left r (get_or (kept rs) k d) (eqb-true (place_width r) 0 e)) (rest h)
        by true false e h rest =
            AllPairs-cons AreFieldsApart r (kept rs) (cross_to r rs (AllPairs-head AreApart (field_bytes r) (fields rs) h))
            (rest (AllPairs-tail AreApart (field_bytes r) (fields rs) h))

    pub pairs_back : (rs : List Relocation) → All IsOwn rs → AllPairs AreFieldsApart (kept rs) → AllPairs AreApart (fields rs)
    pairs_back [] owns pairs = AllPairs-nil AreApart
    pairs_back (r ∷ rs) owns pairs = by (is_in_image drops r) (place_width r == 0) refl pairs (pairs_back rs (All-tail IsOwn r rs owns))
      where
        by : (b w : Bool) → (place_width r == 0) ≡ w → AllPairs AreFieldsApart (cond b (r ∷ kept rs) (kept rs)) →
            (AllPairs AreFieldsApart (kept rs) → AllPairs AreApart (fields rs)) → AllPairs AreApart (cond (b && not w) (field_bytes r ∷ []) [] ++ fields rs)
        by false w e h rest = rest h
        by true true e h rest = rest (AllPairs-tail AreFieldsApart r (kept rs) h)
        by true false e h rest =
            AllPairs-cons AreApart (field_bytes r) (fields rs)
            (cross_back r rs (All-head IsOwn r rs owns) (All-tail IsOwn r rs owns) (AllPairs-head AreFieldsApart r (kept rs) h))
            (rest (AllPairs-tail AreFieldsApart r (kept rs) h))

    pub own_apart : (o : LoadedObject) → AllPairs AreApart (fields (relocations_from number o)) ↔ AllPairs AreFieldsApart (kept (relocations_from number o))
    own_apart o = (pairs_to (relocations_from number o), pairs_back (relocations_from number o) (own_object number o))

    -- the fields of an object and those of later ones
    apart_objects : (o : LoadedObject) (os : List LoadedObject) → All (λ r. All (AreFieldsApart r) (kept (relocations_of (number + 1) os))) (kept (relocations_from number o))
    apart_objects o os =
        All-weaker IsOwn (λ (r : Relocation). All (AreFieldsApart r) (kept (relocations_of (number + 1) os)))
        (λ r own.
        All-weaker (λ (s : Relocation). number + 1 ≤ s.object) (AreFieldsApart r)
        (λ s later same. absurd (omega (arith, own, later, same))) (kept (relocations_of (number + 1) os))
        (All-filter (is_in_image drops) (λ (s : Relocation). number + 1 ≤ s.object) (relocations_of (number + 1) os) (later_objects (number + 1) os)))
        (kept (relocations_from number o)) (All-filter (is_in_image drops) IsOwn (relocations_from number o) (own_object number o))

    module _ (Q : Type 0) (xs : List Relocation) (o : LoadedObject) (os : List LoadedObject) (parts : xs ≡ relocations_from number o ++ relocations_of (number + 1) os) where
      split : kept xs ≡ kept (relocations_from number o) ++ kept (relocations_of (number + 1) os)
      split = ap kept parts ∙ filter-append (is_in_image drops) (relocations_from number o) (relocations_of (number + 1) os)

      pub object_more :
          AllPairs AreFieldsApart (kept (relocations_from number o)) → Left Q (AllPairs AreFieldsApart (kept xs)) →
          Left Q (AllPairs AreFieldsApart (kept (relocations_of (number + 1) os)))
      object_more here q = (
        λ h.
            (AllPairs-parts AreFieldsApart (kept (relocations_from number o)) (kept (relocations_of (number + 1) os))
            (subst (AllPairs AreFieldsApart) split (q.0 h))).1,
        λ h.
            q.1
            (subst (AllPairs AreFieldsApart) (sym split)
            (AllPairs-append AreFieldsApart (kept (relocations_from number o)) (kept (relocations_of (number + 1) os)) here h (apart_objects o os))),
      )

      pub object_stop : (AllPairs AreFieldsApart (kept (relocations_from number o)) → ⊥) → Left Q (AllPairs AreFieldsApart (kept xs)) → Q → ⊥
      object_stop never q h =
          never
          (AllPairs-parts AreFieldsApart (kept (relocations_from number o)) (kept (relocations_of (number + 1) os))
          (subst (AllPairs AreFieldsApart) split (q.0 h))).0

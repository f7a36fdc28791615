-- Two images that one certificate shows to be right hold the same bytes: what is wanted of a byte outside of places is the
-- input's, and of a field its formula's value, of which no part is the image's but the thread pointer. Only code that finds a slot
-- may be rewritten.
use Rattle.std.proofs.Common.{◌∙◌, ap, arith, inl, inr, refl, subst, sym}
use Rattle.std.specs.Prelude.{◌≡◌, ◌==◌, ◌&&◌, ℕ, pos, ◌-ℤ◌, ◌+◌, ◌<◌, Bool, true, false, cond, find, nat_le, List, Option, None, Some, IfSome, IsSomeAnd, option_map, unwrap_or, slice_index}
use Rattle.std.proofs.lemmas.Bool.{eqb-true}
use Rattle.std.proofs.lemmas.List.Elements.{All-contains}
use Rattle.std.proofs.lemmas.Option.{none-some}
use Rattle.byteview.specs.Numbers.{le_bytes}
use Rattle.byteview.proofs.NumberLaws.{length-le_bytes}
use Rattle.elf_model.proofs.Listed.{All-from_contains}
use Rattle.elf_model.specs.Image.RightLink.{byte_at}
use Rattle.elf_model.specs.Link.Relocation.{Kind, Relocation, modulo_64}
use Rattle.elf_model.specs.Link.Slots.{slot_kind_of}
use Rattle.elf_model.specs.Inputs.ObjectFile.{rela_type}
use Rattle.judge_model.specs.Rewrites.{front_of, front_of_type, is_at_end}
use Rattle.judge_model.specs.Fields.{foreign_kinds, HoldsField, HoldsPlain, HoldsRest, HoldsValue, IsFieldRight, IsPlaceRight, field_address, field_value, got_of, kind_of, size_of, whole_value}
use Rattle.judge_model.specs.Links.{ForeignLink, placed_of, relocations_of}
use Rattle.judge_model.specs.Means.{meant}
use Rattle.judge_model.specs.declared.judgement.Requirement.TheVariants.{F5, F7}
use Rattle.judge_law.specs.Determined.{AreSameInField, AreSameOutside, HasNoSlot, RightLinksHoldTheSame, pointer_of, with_image}

-- what symbols mean is no matter of the image
meant_same : (l : ForeignLink) (image : List ℕ) (r : Relocation) → meant (with_image l image) r ≡ meant l r
unfolding meant
meant_same l image r = refl

-- a field's value is the image's by the thread pointer alone
value_by : ForeignLink → Relocation → Kind → ℕ → ℕ → ℕ
value_by l r k v pointer = modulo_64 (whole_value k.formula (record {
  s = v;
  a = r.entry.r_addend;
  p = field_address l r;
  slot = 0;
  got = got_of l;
  z = size_of l r;
  t = pos v -ℤ pos pointer;
}))

value_same : (l : ForeignLink) (image : List ℕ) (r : Relocation) (k : Kind) (v : ℕ) → pointer_of l.image ≡ pointer_of image
    → field_value l r k v 0 ≡ field_value (with_image l image) r k v 0
unfolding value_by
value_same l image r k v same = ap (value_by l r k v) same

-- a field of such a value
held : (l : ForeignLink) (image : List ℕ) (r : Relocation) (k : Kind) (v j : ℕ)
    → HoldsValue l r k v 0 → HoldsValue (with_image l image) r k v 0
    → pointer_of l.image ≡ pointer_of image → j < k.width
    → byte_at l.image (field_address l r + j) ≡ byte_at image (field_address l r + j)
held l image r k v j a b same below =
    let first = a.holds j (subst (λ n. j < n) (sym (length-le_bytes k.width (field_value l r k v 0))) below) in
    let second = b.holds j (subst (λ n. j < n) (sym (length-le_bytes k.width (field_value (with_image l image) r k v 0))) below) in
    first ∙ ap (λ n. Some (slice_index (le_bytes k.width n) j)) (value_same l image r k v same) ∙ sym second

plain : (l : ForeignLink) (image : List ℕ) (r : Relocation) (k : Kind) (j : ℕ) (o p : Option ℕ)
    → o ≡ p
    → IsSomeAnd o (λ v. HoldsValue l r k v 0) → IsSomeAnd p (λ v. HoldsValue (with_image l image) r k v 0)
    → pointer_of l.image ≡ pointer_of image → j < k.width
    → byte_at l.image (field_address l r + j) ≡ byte_at image (field_address l r + j)
plain l image r k j None p e a b same below = absurd a
plain l image r k j (Some v) p e a b same below =
    held l image r k v j a (subst (λ o. IsSomeAnd o (λ v. HoldsValue (with_image l image) r k v 0)) (sym e) b) same below

field : (l : ForeignLink) (image : List ℕ) (r : Relocation) (j : ℕ) (o : Option Kind)
    → IsSomeAnd o (HoldsField l r) → IsSomeAnd o (HoldsField (with_image l image) r)
    → IfSome o (λ k. slot_kind_of k.formula ≡ None)
    → pointer_of l.image ≡ pointer_of image → j < unwrap_or (option_map (λ (k : Kind). k.width) o) 0
    → byte_at l.image (field_address l r + j) ≡ byte_at image (field_address l r + j)
field l image r j None a b none same below = absurd a
field l image r j (Some k) a b none same below =
    plain l image r k j (meant l r) (meant (with_image l image) r) (sym (meant_same l image r))
    (subst (HoldsPlain l r k) none a.2) (subst (HoldsPlain (with_image l image) r k) none b.2) same below

-- a relocation whose instruction is told finds a slot
no_instruction : (r : Relocation) → HasNoSlot r → 0 < front_of r.entry → ⊥
no_instruction r none told =
    by (is_at_end r.entry && nat_le (front_of_type (rela_type r.entry)) r.entry.r_offset) told
    (rela_type r.entry == 9) (rela_type r.entry == 41) (rela_type r.entry == 42) (rela_type r.entry == 22) refl refl refl refl
  where
    slot : (t : ℕ) → rela_type r.entry ≡ t → IfSome (find (λ k. k.number == t) foreign_kinds) (λ k. slot_kind_of k.formula ≡ None)
    slot t e = subst (λ n. IfSome (find (λ k. k.number == n) foreign_kinds) (λ k. slot_kind_of k.formula ≡ None)) e none

    by :
        (b : Bool) → 0 < cond b (front_of_type (rela_type r.entry)) 0 → (p x y t : Bool) → (rela_type r.entry == 9) ≡ p →
        (rela_type r.entry == 41) ≡ x → (rela_type r.entry == 42) ≡ y → (rela_type r.entry == 22) ≡ t → ⊥
    by false low p x y t e f g h = absurd (omega (arith, low))
    by true low true x y t e f g h = none-some _ (sym (slot 9 (eqb-true (rela_type r.entry) 9 e)))
    by true low false true y t e f g h = none-some _ (sym (slot 41 (eqb-true (rela_type r.entry) 41 f)))
    by true low false false true t e f g h = none-some _ (sym (slot 42 (eqb-true (rela_type r.entry) 42 g)))
    by true low false false false true e f g h = none-some _ (sym (slot 22 (eqb-true (rela_type r.entry) 22 h)))
    by true low false false false false e f g h =
        let zero : front_of_type (rela_type r.entry) ≡ 0 = rw (e, f, g, h) refl in absurd (omega (arith, low, zero))

-- so memory has the field of its kind for one that finds none
unchanged : (l : ForeignLink) (r : Relocation) → HasNoSlot r → IsPlaceRight l r → IsSomeAnd (kind_of r) (HoldsField l r)
unchanged l r none (inl same) = same.field
unchanged l r none (inr (i, w, low, is, row)) = absurd (no_instruction r none row.told)

pub right_links_same : RightLinksHoldTheSame
right_links_same l image a b same = record {
  sections = All-from_contains (AreSameOutside l image) (placed_of l) (λ q c k below outside.
      (All-contains (HoldsRest l) (placed_of l) q (a.holds F7) c).bytes k below outside
      ∙ sym ((All-contains (HoldsRest (with_image l image)) (placed_of l) q (b.holds F7) c).bytes k below outside));
  fields = All-from_contains (AreSameInField l image) (relocations_of l) (λ r c out none j below.
      field l image r j (kind_of r)
      (unchanged l r none ((All-contains (IsFieldRight l) (relocations_of l) r (a.holds F5) c).right out))
      (unchanged (with_image l image) r none ((All-contains (IsFieldRight (with_image l image)) (relocations_of l) r (b.holds F5) c).right out))
      none same below);
}

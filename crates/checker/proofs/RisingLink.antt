-- What is told of a link by fields that rise, as they come: its relocations are right, and memory holds the wanted bytes of pieces.
use Rattle.std.proofs.Common.{◌≡◌, ℕ, ◌+◌, ◌<◌, ◌≤◌, ◌&&◌, ◌⊎◌, inl, inr, Bool, true, false, List, Some, None, get_or, length, map, refl, sym, subst, ◌∙◌, arith}
use Rattle.std.specs.Prelude.{All, AllPairs}
use Rattle.std.specs.List.{slice_get}
use Rattle.std.proofs.lemmas.List.Elements.{All-map}
use Rattle.std.proofs.lemmas.List.Sorted.{IsPermutation-refl}
use Rattle.std.proofs.lemmas.Option.{get_or_from_slice_get, none-some, slice_get_cases}
use Rattle.elf_model.proofs.OwnFields.{apart_of_ranges}
use Rattle.elf_model.proofs.Pairs.{AllPairs-unmap}
use Rattle.elf_model.specs.Link.Loading.{LoadedObject}
use Rattle.elf_model.specs.Link.Placement.{Where}
use Rattle.elf_model.specs.Link.Relocation.{Relocation, relocations_from}
use Rattle.elf_model.specs.Image.RightLink.{Subject, objects_of, where_of}
use Rattle.check_load.proofs.KeptRelocationLaws.{relocations_listed}
use Rattle.check_load.specs.Kept.{kept_relas}
use Rattle.check_link.specs.Views.{placed_view, placed_views}
use Rattle.check_link.specs.declared.things.Placed.{Placed}
use Rattle.check_relocs.proofs.FieldOrder.{rise_apart}
use Rattle.check_relocs.proofs.ObjectFields.{narrow_fields}
use Rattle.check_relocs.proofs.WantedFields.{row_inside}
use Rattle.check_relocs.specs.Bindings.{Bound, bound_of}
use Rattle.check_relocs.specs.Bytes.{HoldsFields}
use Rattle.check_relocs.specs.Fields.{AreApart, AreRight, IsBefore, IsRight, IsRowOf, Rise, field_of}
use Rattle.check_relocs.specs.Referrers.{object_here, objects_here}
use Rattle.check_relocs.specs.declared.fields.Field.{Field}
use Rattle.check_relocs.specs.declared.referrer.Referrer.{Referrer}
use Rattle.checker.proofs.PieceSections.{holds_wanted}
use Rattle.checker.specs.Comparing.{AreHeld, AreOwn, IsRowAt}
use Rattle.checker.specs.Rising.{AreInOrder}

-- the row of the object that has a number
pub row_there :
    (s : Subject) (n : ℕ) (o : LoadedObject) (row : List Field) → slice_get (objects_of s) n ≡ Some o →
    IsRowOf (objects_of s) (where_of s) n o row → IsRowAt s n row
row_there s n o row there of = record {
  there = λ x low.
      subst (λ (y : LoadedObject). IsRowOf (objects_of s) (where_of s) n y row) (sym (get_or_from_slice_get (objects_of s) n o x there)) of;
  past = λ past. absurd (none_past past);
}
  where
    none_past : length (objects_of s) ≤ n → ⊥
    none_past past = by (slice_get_cases (objects_of s) n).1
      where
        by : ((x : LoadedObject) × (n < length (objects_of s)) × (slice_get (objects_of s) n ≡ Some x) × (get_or (objects_of s) n x ≡ x)) ⊎ ((length (objects_of s) ≤ n) × (slice_get (objects_of s) n ≡ None)) → ⊥
        by (inl a) = let low = a.1 in omega (arith, low, past)
        by (inr b) = none-some o (sym b.1 ∙ there)

-- the same by what names mean
pub row_bound :
    (s : Subject) (b : Bound) → b ≡ bound_of s → (n : ℕ) (o : LoadedObject) (row : List Field) → slice_get (objects_of s) n ≡ Some o →
    IsRowOf b.objects b.places n o row → IsRowAt s n row
row_bound s b bound n o row there of = row_there s n o row there (subst (λ (c : Bound). IsRowOf c.objects c.places n o row) bound of)

-- right relocations of an object whose fields rise
module _ (L : List LoadedObject) (w : Where) (n : ℕ) (o : LoadedObject) (right : All (IsRight L w) (relocations_from n o)) (rising : AllPairs IsBefore (map (field_of L w) (relocations_from n o))) where
  up : Rise (map (field_of L w) (relocations_from n o))
  up k d low = rising k (k + 1) d (omega arith) low

  pub rising_right : AreRight L w (relocations_from n o)
  rising_right = record {
    each = right;
    apart =
        apart_of_ranges (relocations_from n o)
        (AllPairs-unmap AreApart (field_of L w) (relocations_from n o)
        (rise_apart (map (field_of L w) (relocations_from n o)) (narrow_fields L w (relocations_from n o) right) up));
  }

  pub rising_row : IsRowOf L w n o (map (field_of L w) (relocations_from n o))
  rising_row = record {
    sorted = record { same = IsPermutation-refl (map (field_of L w) (relocations_from n o)); rising = rising };
    inside = row_inside L w n o (map (field_of L w) (relocations_from n o)) right (IsPermutation-refl (map (field_of L w) (relocations_from n o)));
  }

module _ (s : Subject) (h : Referrer) (bound : h.bindings.now ≡ bound_of s) (image : List ℕ) (seen : image ≡ s.image) (own : List Placed) (are : AreInOrder h image (kept_relas (object_here h)) own) where
  abbrev rs : List Relocation
  rs = relocations_from h.number (object_here h)

  each : All (IsRight (objects_here h) h.bindings.now.places) rs
  each = subst (All (IsRight (objects_here h) h.bindings.now.places)) (relocations_listed h.number (object_here h)) are.right

  rise : AllPairs IsBefore (map (field_of (objects_here h) h.bindings.now.places) rs)
  rise = subst (λ (xs : List Relocation). AllPairs IsBefore (map (field_of (objects_here h) h.bindings.now.places) xs)) (relocations_listed h.number (object_here h)) are.rising

  pub told_right : AreRight (objects_of s) (where_of s) (relocations_from h.number (object_here h))
  told_right =
      subst (λ (b : Bound). AreRight b.objects b.places rs) bound
      (rising_right (objects_here h) h.bindings.now.places h.number (object_here h) each rise)

  pub told_held :
      slice_get (objects_of s) h.number ≡ Some (object_here h) → AreOwn s h.number (placed_views own) → AreHeld s (placed_views own)
  told_held there of =
      let row = map (field_of (objects_here h) h.bindings.now.places) rs in
      let is =
      row_bound s h.bindings.now bound h.number (object_here h) row there
      (rising_row (objects_here h) h.bindings.now.places h.number (object_here h) each rise) in
      holds_wanted s h.number row is (placed_views own) of
      (All-map (HoldsFields s.image row) placed_view own
      (subst (λ (held : List ℕ). All (λ (q : Placed). HoldsFields held row (placed_view q)) own) seen
      (subst (λ (xs : List Relocation). All (λ (q : Placed). HoldsFields image (map (field_of (objects_here h) h.bindings.now.places) xs) (placed_view q)) own)
      (relocations_listed h.number (object_here h)) are.held)))

-- nothing is added to what was held
pub and_true : (b : Bool) → (b && true) ≡ b
and_true true = refl
and_true false = refl

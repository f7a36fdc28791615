-- The rows of patches of all objects: as they are collected, and the fields of each.
use Rattle.std.proofs.Common.{◌≡◌, ℕ, ◌+◌, ◌<◌, ◌≤◌, ◌⊎◌, inl, inr, Bool, true, false, List, [], ◌∷◌, ◌++◌, Option, Some, None, Err, IfErr, Result, get_or, length, nat_lt, option_map, refl, subst, sym, ap, ◌∙◌, arith}
use Rattle.std.specs.Prelude.{All, AllPairs, find, unwrap_or}
use Rattle.std.specs.List.{slice_get}
use Rattle.std.proofs.lemmas.Bool.{ltb-false, ltb-true}
use Rattle.std.proofs.lemmas.List.{get_or_append_left, get_or_push, length-append}
use Rattle.std.proofs.lemmas.List.Elements.{All-weaker}
use Rattle.std.proofs.lemmas.Option.{same_Some, slice_get_cases, slice_get_within}
use Rattle.elf_model.specs.Link.Loading.{LoadedObject}
use Rattle.elf_model.proofs.RelocationFields.{own_object}
use Rattle.elf_model.specs.Own.OwnLayout.{OwnValuesFit}
use Rattle.elf_model.specs.Link.Placement.{Where}
use Rattle.elf_model.specs.Link.Relocation.{AreFieldsApart, AreLawfulRelocations, IsLawfulRelocation, Relocation, is_in_field, relocations, relocations_from}
use Rattle.elf_model.specs.Link.RelocationValues.{Fits}
use Rattle.relocate.specs.declared.faults.RelocFault.{RelocFault}
use Rattle.relocate.specs.declared.faults.RelocFault.TheVariants as error
use Rattle.layout.specs.Placements.{Basis}
use Rattle.relocate.proofs.OwnParts.{IsPart, all_own, found_own, none_of_others, numbered, own_part, pairs_own}
use Rattle.reloc_values.proofs.RisingRows.{none_rise, rises}
use Rattle.reloc_values.proofs.Searched.{find-moved}
use Rattle.relocate.proofs.Wanted.{patch_found, patches_apart, patches_narrow}
use Rattle.reloc_values.specs.Patches.{AreDisjoint, IsPatchRow, IsRising, covers}
use Rattle.relocate.specs.Values.{ArePatchRows, ArePatches, FittingFails, HasFields, ValuesFail, patch_of, patches_in, where_in, row_at, row_in}
use Rattle.relocate.specs.declared.object_rows.ObjectPatches.{ObjectPatches}
use Rattle.reloc_values.specs.declared.patch.Patch.{Patch}

-- the rows of the first n objects
pub record AreFirstRows (objects : List LoadedObject) (w : Where) (n : ℕ) (rows : List ObjectPatches) : Type 0 where
  pub count : length rows ≡ n
  pub each :
      (k : ℕ) (o : LoadedObject) (d : ObjectPatches) → k < n → slice_get objects k ≡ Some o →
      ArePatchRows objects w (relocations_from k o) (get_or rows k d)

pub no_rows : (objects : List LoadedObject) (w : Where) (rows : List ObjectPatches) → rows ≡ [] → AreFirstRows objects w 0 rows
no_rows objects w rows none = record {
  count = ap (λ (v : List ObjectPatches). length v) none;
  each = λ k o d low there. absurd (omega (arith, low));
}

pub rows_all :
    (b : Basis) (objects : List LoadedObject) (n : ℕ) (rows : List ObjectPatches) → b.objects ≡ objects → AreLawfulRelocations objects →
    n ≡ length objects → AreFirstRows objects (where_in b) n rows → ArePatches b rows
rows_all b objects n rows same lawful whole first =
    let long = ap (λ (os : List LoadedObject). length os) same in
    record {
      lawful = subst AreLawfulRelocations (sym same) lawful;
      count = first.count ∙ (whole ∙ sym long);
      each = λ k o d there.
          let here = subst (λ (os : List LoadedObject). slice_get os k ≡ Some o) same there in
          let low = slice_get_within objects k o here in
          subst (λ (os : List LoadedObject). ArePatchRows os (where_in b) (relocations_from k o) (get_or rows k d))
          (sym same) (first.each k o d (omega (arith, low, whole)) here);
    }

-- the row of a section is that of its object's relocations
record IsRowOf (b : Basis) (k s : ℕ) (row : List Patch) : Type 0 where
  pub own : LoadedObject
  pub there : slice_get b.objects k ≡ Some own
  pub is : IsPatchRow (patches_in b.objects (where_in b) (relocations_from k own) s) row

-- or there is no such object
row_cases : (b : Basis) (rows : List ObjectPatches) (k s : ℕ) → ArePatches b rows → IsRowOf b k s (row_in rows k s) ⊎ ((row_in rows k s ≡ []) × (length b.objects ≤ k))
row_cases b rows k s are = by (slice_get_cases b.objects k).1 (slice_get_cases rows k).1
  where
    by :
        ((o : LoadedObject) × (k < length b.objects) × (slice_get b.objects k ≡ Some o) × (get_or b.objects k o ≡ o)) ⊎ ((length b.objects ≤ k) × (slice_get b.objects k ≡ None)) →
        ((row : ObjectPatches) × (k < length rows) × (slice_get rows k ≡ Some row) × (get_or rows k row ≡ row)) ⊎ ((length rows ≤ k) × (slice_get rows k ≡ None)) →
        IsRowOf b k s (row_in rows k s) ⊎ ((row_in rows k s ≡ []) × (length b.objects ≤ k))
    by (inl o) (inl row) =
        let own = subst (λ (v : ObjectPatches). ArePatchRows b.objects (where_in b) (relocations_from k o.0) v) row.3 (are.each k o.0 row.0 o.2) in
        let here : row_in rows k s ≡ row_at row.0 s = ap (λ (v : Option (ObjectPatches)). unwrap_or (option_map (λ w. row_at w s) v) []) row.2 in
        inl (record {
          own = o.0;
          there = o.2;
          is = subst (IsPatchRow (patches_in b.objects (where_in b) (relocations_from k o.0) s)) (sym here) (own.each s);
        })
    by (inl o) (inr past) = let low = o.1 in let behind = past.0 in let count = are.count in absurd (omega (arith, low, behind, count))
    by (inr past) (inl row) = let low = row.1 in let behind = past.0 in let count = are.count in absurd (omega (arith, low, behind, count))
    by (inr past) (inr none) = inr (ap (λ (v : Option (ObjectPatches)). unwrap_or (option_map (λ w. row_at w s) v) []) none.1, past.0)

-- the relocations of an object among all
part_of : (b : Basis) (k : ℕ) (o : LoadedObject) → slice_get b.objects k ≡ Some o → IsPart k (relocations_from k o) (relocations b.objects)
part_of b k o there = own_part k 0 k b.objects o (omega arith) there

apart_of :
    (b : Basis) (rows : List ObjectPatches) (k s : ℕ) (o : LoadedObject) → ArePatches b rows → slice_get b.objects k ≡ Some o →
    AllPairs AreDisjoint (patches_in b.objects (where_in b) (relocations_from k o) s)
apart_of b rows k s o are there =
    let rs = relocations_from k o in
    patches_apart b.objects (where_in b) k s rs (own_object k o) (pairs_own AreFieldsApart k rs (relocations b.objects) (part_of b k o there) are.lawful.apart)

-- the fields of a row rise
pub row_rises : (b : Basis) (rows : List ObjectPatches) (k s : ℕ) → ArePatches b rows → IsRising (row_in rows k s)
row_rises b rows k s are = by (row_cases b rows k s are)
  where
    by : IsRowOf b k s (row_in rows k s) ⊎ ((row_in rows k s ≡ []) × (length b.objects ≤ k)) → IsRising (row_in rows k s)
    by (inl r) =
        let rs = relocations_from k r.own in
        rises (patches_in b.objects (where_in b) rs s) (row_in rows k s) r.is
        (patches_narrow b.objects (where_in b) s rs
        (all_own (IsLawfulRelocation b.objects) k rs (relocations b.objects) (part_of b k r.own r.there) are.lawful.each))
        (apart_of b rows k s r.own are r.there)
    by (inr none) = subst IsRising (sym none.0) none_rise

-- the patch that has a byte is that of the relocation that has it
pub row_has_fields : (b : Basis) (rows : List ObjectPatches) (k s : ℕ) → ArePatches b rows → HasFields b.objects (where_in b) k s (row_in rows k s)
row_has_fields b rows k s are j = by (row_cases b rows k s are)
  where
    by :
        IsRowOf b k s (row_in rows k s) ⊎ ((row_in rows k s ≡ []) × (length b.objects ≤ k)) →
        find (covers j) (row_in rows k s) ≡ option_map (patch_of b.objects (where_in b)) (find (is_in_field k s j) (relocations b.objects))
    by (inl r) =
        let rs = relocations_from k r.own in
        find-moved AreDisjoint (covers j) (patches_in b.objects (where_in b) rs s) (row_in rows k s) r.is.same (apart_of b rows k s r.own are r.there)
        (λ x y apart e f. apart j e f)
        ∙ (patch_found b.objects (where_in b) k s j rs (own_object k r.own)
        ∙ ap (λ (o : Option Relocation). option_map (patch_of b.objects (where_in b)) o) (sym (found_own k s j rs (relocations b.objects) (part_of b k r.own r.there))))
    by (inr none) =
        let past = none.1 in
        ap (λ (row : List Patch). find (covers j) row) none.0
        ∙ ap (λ (o : Option Relocation). option_map (patch_of b.objects (where_in b)) o)
        (sym
        (none_of_others k s j (relocations b.objects)
        (All-weaker (λ (r : Relocation). r.object < 0 + length b.objects) (λ (r : Relocation). r.object ≡ k → ⊥) (λ r low e. omega (arith, low, past, e))
        (relocations b.objects) (numbered 0 b.objects))))

-- a row more
pub row_more :
    (objects : List LoadedObject) (w : Where) (n : ℕ) (o : LoadedObject) (rows new : List ObjectPatches) (row : ObjectPatches) →
    new ≡ rows ++ row ∷ [] → slice_get objects n ≡ Some o →
    ArePatchRows objects w (relocations_from n o) row → AreFirstRows objects w n rows →
    AreFirstRows objects w (n + 1) new
row_more objects w n o rows new row pushed there here first = record {
  count = ap (λ (v : List ObjectPatches). length v) pushed ∙ (length-append rows (row ∷ []) ∙ ap (λ (k : ℕ). k + 1) first.count);
  each = λ k p d low at. by k p d low at (nat_lt k n) refl;
}
  where
    by :
        (k : ℕ) (p : LoadedObject) (d : ObjectPatches) → k < n + 1 → slice_get objects k ≡ Some p → (t : Bool) → nat_lt k n ≡ t →
        ArePatchRows objects w (relocations_from k p) (get_or new k d)
    by k p d low at true e =
        let before = ltb-true k n e in
        let count = first.count in
        subst (λ (v : ObjectPatches). ArePatchRows objects w (relocations_from k p) v)
        (sym (ap (λ (v : List ObjectPatches). get_or v k d) pushed ∙ get_or_append_left rows (row ∷ []) d k (omega (arith, before, count))))
        (first.each k p d before at)
    by k p d low at false e =
        let behind = ltb-false k n e in
        let last : n ≡ k = omega (arith, low, behind) in
        let same = same_Some o p (sym there ∙ (ap (slice_get objects) last ∙ at)) in
        subst (λ (v : ObjectPatches). ArePatchRows objects w (relocations_from k p) v)
        (sym (ap (λ (v : List ObjectPatches). get_or v k d) pushed ∙ get_or_push rows row d k (first.count ∙ last)))
        (subst (λ (q : LoadedObject). ArePatchRows objects w (relocations_from k q) row) same
        (subst (λ (m : ℕ). ArePatchRows objects w (relocations_from m o) row) last here))

-- why the values of all objects don't fit
pub values_fail : (b : Basis) (objects : List LoadedObject) (e : RelocFault) → b.objects ≡ objects → FittingFails objects (where_in b) (relocations objects) e → ValuesFail b e
values_fail b objects error.Memory same f = tt
values_fail b objects error.Overflow same f = subst (λ (os : List LoadedObject). ¬ All (Fits os (where_in b)) (relocations os)) (sym same) f
values_fail b objects _ same f = absurd f

-- an error that is passed on
pub exit_values :
    {X : Type 0} (b : Basis) (r : Result X RelocFault) (e : RelocFault) → (g : RelocFault) × (r ≡ Err g) × (g ≡ e) → ValuesFail b e → IfErr r (ValuesFail b)
exit_values b r e p f = rw (p.1, p.2) f

pub values_fit : (b : Basis) (objects : List LoadedObject) → b.objects ≡ objects → All (Fits objects (where_in b)) (relocations objects) → OwnValuesFit b.base b.objects
values_fit b objects same all = subst (λ (os : List LoadedObject). All (Fits os (where_in b)) (relocations os)) (sym same) all

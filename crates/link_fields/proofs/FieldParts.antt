-- The fields of one section among those of an object, and the fields of an object among those of all.
use Rattle.std.proofs.Common.{◌≡◌, ℕ, ◌+◌, ◌-◌, ◌<◌, ◌≤◌, ◌⊎◌, inl, inr, List, [], length, get_or, take, drop, map, sym, ap, subst, ◌∙◌, arith, length-take, length-drop}
use Rattle.std.specs.Prelude.{◌↔◌, All, Contains, IsPermutation, None, Some}
use Rattle.std.specs.List.{slice_get}
use Rattle.std.specs.List.Sorted.{IsNonDecreasingBy}
use Rattle.std.proofs.lemmas.Bool.{cases_lt}
use Rattle.std.proofs.lemmas.List.{get_or-drop, get_or-take}
use Rattle.std.proofs.lemmas.List.Elements.{All-contains, All-map}
use Rattle.std.proofs.lemmas.List.Sorted.{All-permutation, IsPermutation-sym}
use Rattle.elf_model.proofs.Listed.{All-from_contains, All-unmap}
use Rattle.elf_model.specs.Link.Loading.{LoadedObject}
use Rattle.elf_model.specs.Link.Relocation.{Relocation, relocations, relocations_from}
use Rattle.memory_judge.specs.Rests.{IsBeside, IsIn}
use Rattle.memory_judge.specs.declared.rests.FieldSpan.{FieldSpan}
use Rattle.link_fields.proofs.OwnRelocations.{object_is, one_of_all, own_of}
use Rattle.link_fields.proofs.BesideRelocations.{no_object}
use Rattle.link_fields.specs.Fields.{HasFields, IsFieldOutside, field_of}
use Rattle.link_fields.specs.Rests.{IsOutside}
use Rattle.link_fields.specs.declared.object_fields.SectionField.{SectionField}

-- The part of a row that stands between two counts.
module _ (row through part : List SectionField) (s low high : ℕ) (through_is : through ≡ take high row) (part_is : part ≡ drop low through) (early : (k : ℕ) (d : SectionField) → k < low → (get_or through k d).section < s) (from : (k : ℕ) (d : SectionField) → low ≤ k → k < length through → s ≤ (get_or through k d).section) (until : (k : ℕ) (d : SectionField) → k < high → (get_or row k d).section ≤ s) (late : (k : ℕ) (d : SectionField) → high ≤ k → k < length row → s < (get_or row k d).section) where
  through_at : (k : ℕ) (d : SectionField) → k < high → get_or through k d ≡ get_or row k d
  through_at k d below = ap (λ (fs : List SectionField). get_or fs k d) through_is ∙ get_or-take high row k d below

  part_at : (k : ℕ) (d : SectionField) → low + k < high → get_or part k d ≡ get_or row (low + k) d
  part_at k d below = ap (λ (fs : List SectionField). get_or fs k d) part_is ∙ (get_or-drop low through k d ∙ through_at (low + k) d below)

  lengths : (length through ≤ high) × (length through ≤ length row)
  lengths =
      let n = ap (length {A = SectionField}) through_is in
      let m = length-take high row in
      (omega (arith, n, m), omega (arith, n, m))

  longer : (k : ℕ) → k < high → k < length row → k < length through
  longer k below within =
      let n = ap (length {A = SectionField}) through_is in
      let m = length-take high row in
      omega (arith, n, m, below, within)

  module _ (k : ℕ) where
    abbrev Free : SectionField → Type 0
    Free f = ¬ IsIn k f.span

    whole_from_part : All Free part → All (IsFieldOutside s k) row
    whole_from_part all j d within section = by (cases_lt j high) (cases_lt j low)
      where
        by : (j < high) ⊎ (high ≤ j) → (j < low) ⊎ (low ≤ j) → Free (get_or row j d)
        by (inr past) other = let l = late j d past within in absurd (omega (arith, l, section))
        by (inl below) (inl before) =
            let l = subst (λ (f : SectionField). f.section < s) (through_at j d below) (early j d before) in absurd (omega (arith, l, section))
        by (inl below) (inr behind) =
            let e : low + (j - low) ≡ j = omega (arith, behind) in
            let n = ap (length {A = SectionField}) part_is in
            let m = length-drop low through in
            let there = longer j below within in
            subst Free (part_at (j - low) d (omega (arith, e, below)) ∙ ap (λ (i : ℕ). get_or row i d) e) (all (j - low) d (omega (arith, n, m, there, behind)))

    part_from_whole : All (IsFieldOutside s k) row → All Free part
    part_from_whole all j d within =
        let n = ap (length {A = SectionField}) part_is in
        let m = length-drop low through in
        let l = lengths in
        let short = l.0 in
        let inside = l.1 in
        let below : low + j < high = omega (arith, n, m, within, short) in
        let least = subst (λ (f : SectionField). s ≤ f.section) (through_at (low + j) d below) (from (low + j) d (omega arith) (omega (arith, n, m, within))) in
        let most = until (low + j) d below in
        subst Free (sym (part_at j d below)) (all (low + j) d (omega (arith, n, m, within, inside)) (omega (arith, least, most)))

    pub part_beside : IsBeside (map (λ f. f.span) part) k ↔ All (IsFieldOutside s k) row
    part_beside = (
      λ b. whole_from_part (All-unmap (λ (t : FieldSpan). ¬ IsIn k t) (λ (f : SectionField). f.span) part b),
      λ all. All-map (λ (t : FieldSpan). ¬ IsIn k t) (λ (f : SectionField). f.span) part (part_from_whole all),
    )

-- The fields of the relocations of an object, in any order.
module _ (objects : List LoadedObject) (n : ℕ) (section k : ℕ) where
  none_more : 0 + n ≡ n
  none_more = omega arith

  pub fields_of_all :
      (o : LoadedObject) (row : List SectionField) → slice_get objects n ≡ Some o → IsPermutation (map field_of (relocations_from n o)) row →
      All (IsFieldOutside section k) row ↔ All (IsOutside n section k) (relocations objects)
  fields_of_all o row at same = (to, back)
    where
      own : List Relocation
      own = relocations_from n o

      to : All (IsFieldOutside section k) row → All (IsOutside n section k) (relocations objects)
      to all =
          let each =
          All-unmap (IsFieldOutside section k) field_of own
          (All-permutation (IsFieldOutside section k) row (map field_of own) (IsPermutation-sym (map field_of own) row same) all) in
          All-from_contains (IsOutside n section k) (relocations objects)
          (λ r there object section_is.
          let here : Contains own r =
          subst (λ (i : ℕ). Contains (relocations_from i o) r) none_more (own_of 0 objects n o r at (object ∙ sym none_more) there) in
          All-contains (λ (t : Relocation). IsFieldOutside section k (field_of t)) own r each here section_is)

      back : All (IsOutside n section k) (relocations objects) → All (IsFieldOutside section k) row
      back all =
          All-permutation (IsFieldOutside section k) (map field_of own) row same
          (All-map (IsFieldOutside section k) field_of own
          (All-from_contains (λ (t : Relocation). IsFieldOutside section k (field_of t)) own
          (λ r there section_is.
          All-contains (IsOutside n section k) (relocations objects) r all
          (one_of_all 0 objects n o r at (subst (λ (i : ℕ). Contains (relocations_from i o) r) (sym none_more) there)) (object_is n o r there) section_is)))

pub has_all :
    (objects : List LoadedObject) (n : ℕ) (o : LoadedObject) (row : List SectionField) → slice_get objects n ≡ Some o →
    IsPermutation (map field_of (relocations_from n o)) row → IsNonDecreasingBy (λ f. f.section) row → HasFields objects n row
has_all objects n o row at same rising = record { rising = rising; fields = λ section k. fields_of_all objects n section k o row at same }

pub has_none : (objects : List LoadedObject) (n : ℕ) (row : List SectionField) → None ≡ slice_get objects n → row ≡ [] → HasFields objects n row
has_none objects n row none empty =
    subst (HasFields objects n) (sym empty)
    (record {
      rising = λ i j d order within. absurd (omega (arith, within));
      fields = λ section k. (λ all. no_object objects n section k none, λ all j d low. absurd (omega (arith, low)));
    })

pub same_fields :
    (objects others : List LoadedObject) (n m : ℕ) (row : List SectionField) → objects ≡ others → m ≡ n → HasFields objects n row → HasFields others m row
same_fields objects others n m row same number has =
    subst (λ (os : List LoadedObject). HasFields os m row) same (subst (λ (i : ℕ). HasFields objects i row) (sym number) has)

-- Each overlap that is told is one: of two kept relocations of an object, whose fields share a byte.
use Rattle.std.proofs.Common.{◌≡◌, ◌∙◌, inl, inr, ℕ, ◌<◌, ◌==◌, Bool, true, false, List, [], ◌∷◌, Option, None, Some, ap, arith, nat_lt, option_map, refl, subst, sym}
use Rattle.std.specs.Prelude.{◌≢◌, All, AllPairs, not, unwrap_or}
use Rattle.std.specs.List.{slice_get}
use Rattle.std.proofs.lemmas.Bool.{eqb-true, false≢true, ltb-false, ltb-true}
use Rattle.std.proofs.lemmas.List.Elements.{All-append, All-contains, All-cons, All-head, All-nil, All-tail, All-weaker}
use Rattle.std.proofs.lemmas.List.Sorted.{All-permutation}
use Rattle.elf_model.proofs.Pairs.{AllPairs-head, AllPairs-tail}
use Rattle.elf_model.proofs.PairsPermuted.{AllPairs-permutation}
use Rattle.elf_model.proofs.RelocationFields.{field_has}
use Rattle.elf_model.specs.Inputs.ObjectFile.{rela_type}
use Rattle.elf_model.specs.Link.Loading.{LoadedObject}
use Rattle.elf_model.specs.Link.Relocation.{AreFieldsApart, Kind, is_some_kind, kind_of, relocation_of, width_of}
use Rattle.elf_model.specs.declared.constants.TheConstants.{R_X86_64_NONE}
use Rattle.elf_model.specs.declared.records.Rela.{Rela}
use Rattle.search.specs.Loads.{LoadedPlan}
use Rattle.flaws.specs.Flaws.{AreAdded}
use Rattle.wrong_references.specs.Overlaps.{AddsField, AddsOverlaps, AreApart, Came, came, field_at, fields_of}
use Rattle.wrong_references.specs.References.{IsFlaw, IsKeptEntry}
use Rattle.wrong_references.specs.declared.flaw.ReferenceFlaw.{ReferenceFlaw}
use Rattle.wrong_references.specs.declared.flaw.ReferenceFlaw.TheVariants as flaw
use Rattle.wrong_references.specs.declared.overlaps.FieldAt.{FieldAt}
use Rattle.wrong_references.proofs.EntryFields.{IsFieldOf, fields_differ, fields_listed}

abbrev Differ : FieldAt → FieldAt → Type 0
Differ e g = e.entry ≢ g.entry

-- an entry of type NONE has no field
no_kind : kind_of R_X86_64_NONE ≡ None
unfolding kind_of
no_kind = refl

none_narrow : (k : ℕ) (o : LoadedObject) (i : ℕ) (x : Rela) → is_some_kind x ≡ false → width_of (relocation_of k o i x) ≡ 0
none_narrow k o i x none = by (rela_type x == R_X86_64_NONE) refl none
  where
    by : (b : Bool) → (rela_type x == R_X86_64_NONE) ≡ b → not b ≡ false → width_of (relocation_of k o i x) ≡ 0
    by true e h = ap (λ (q : Option Kind). unwrap_or (option_map (λ t. t.width) q) 0) (ap kind_of (eqb-true (rela_type x) R_X86_64_NONE e) ∙ no_kind)
    by false e h = absurd (false≢true (sym h))

module _ (l : LoadedPlan) (k : ℕ) (o : LoadedObject) (object : slice_get l.objects k ≡ Some o) where
  -- a field that shares a byte is that of a kept relocation
  kept_entry : (f : FieldAt) → IsFieldOf k o f → 0 < f.width → IsKeptEntry l.objects k f.entry
  kept_entry f is wide = record {
    o = o;
    h = is.h;
    x = is.x;
    object = object;
    table = is.table;
    kept = is.kept;
    entry = is.entry;
    some_kind = by (is_some_kind is.x) refl;
  }
    where
      by : (b : Bool) → is_some_kind is.x ≡ b → is_some_kind is.x ≡ true
      by true e = e
      by false e = absurd (let none = none_narrow k o is.h.sh_info is.x e in let same = ap (λ (g : FieldAt). g.width) is.is in omega (arith, none, same, wide))

  -- two fields that share a byte have some
  wide : (f g : FieldAt) → ¬ AreApart f g → (0 < f.width) × (0 < g.width)
  wide f g shared = (one (nat_lt 0 f.width) refl, two (nat_lt 0 g.width) refl)
    where
      one : (b : Bool) → nat_lt 0 f.width ≡ b → 0 < f.width
      one true e = ltb-true 0 f.width e
      one false e = absurd (shared (λ same n a low c high. (let none = ltb-false 0 f.width e in omega (arith, none, a, low))))

      two : (b : Bool) → nat_lt 0 g.width ≡ b → 0 < g.width
      two true e = ltb-true 0 g.width e
      two false e = absurd (shared (λ same n a low c high. (let none = ltb-false 0 g.width e in omega (arith, none, c, high))))

  -- relocations whose fields are apart have fields that are
  apart_back : (f g : FieldAt) (v : IsFieldOf k o f) (w : IsFieldOf k o g) → AreFieldsApart (relocation_of k o v.h.sh_info v.x) (relocation_of k o w.h.sh_info w.x) → AreApart f g
  apart_back f g v w apart =
      let e = relocation_of k o v.h.sh_info v.x in
      let d = relocation_of k o w.h.sh_info w.x in
      subst (λ (h : FieldAt). AreApart h g) (sym v.is)
      (subst (λ (h : FieldAt). AreApart (field_at (record { table = f.entry.table; number = f.entry.number; relocation = e })) h) (sym w.is)
      (λ same n a low c high. apart k v.h.sh_info n (field_has k v.h.sh_info n e refl refl a low) (field_has k v.h.sh_info n d refl (sym same) c high)))

  overlap_is : (f g : FieldAt) → IsFieldOf k o f → IsFieldOf k o g → f.entry ≢ g.entry → ¬ AreApart f g → IsFlaw l (flaw.Overlap k f.entry g.entry)
  unfolding kept_entry
  overlap_is f g v w differ shared =
      let both = wide f g shared in
      (kept_entry f v both.0, kept_entry g w both.1, differ, λ apart. shared (apart_back f g v w apart))

  -- the fields come one by one: each is a field of an entry, and of another one than those before it
  fields_hold :
      (order : List FieldAt) (s t : Came) → All (IsFieldOf k o) s.fields → All (IsFieldOf k o) order → All (λ f. All (λ g. f.entry ≢ g.entry) order) s.fields →
      AllPairs (λ f g. f.entry ≢ g.entry) order → AreAdded (AddsField k) order s t → All (IsFlaw l) s.flaws → All (IsFlaw l) t.flaws
  fields_hold [] s t before rest cross pairs same all = subst (λ (c : Came). All (IsFlaw l) c.flaws) (sym same) all
  fields_hold (f ∷ fs) s t before rest cross pairs added all =
      fields_hold fs n t
      (subst (All (IsFieldOf k o)) (sym adds.0) (All-append (IsFieldOf k o) s.fields (f ∷ []) before (All-cons (IsFieldOf k o) f [] first (All-nil (IsFieldOf k o)))))
      (All-tail (IsFieldOf k o) f fs rest)
      (subst (All (λ e. All (λ g. e.entry ≢ g.entry) fs)) (sym adds.0)
      (All-append (λ e. All (λ g. e.entry ≢ g.entry) fs) s.fields (f ∷ [])
      (All-weaker (λ e. All (λ g. e.entry ≢ g.entry) (f ∷ fs)) (λ e. All (λ g. e.entry ≢ g.entry) fs) (λ e each. All-tail (λ (g : FieldAt). e.entry ≢ g.entry) f fs each) s.fields cross)
      (All-cons (λ e. All (λ g. e.entry ≢ g.entry) fs) f [] (AllPairs-head Differ f fs pairs) (All-nil (λ e. All (λ g. e.entry ≢ g.entry) fs)))))
      (AllPairs-tail Differ f fs pairs) added.2
      (elim adds.1 as (λ _. All (IsFlaw l) n.flaws) [
        | inl well ↦ subst (All (IsFlaw l)) (sym well.1) all
        | inr bad ↦
            subst (All (IsFlaw l)) (sym bad.3)
            (All-append (IsFlaw l) s.flaws (flaw.Overlap k bad.0.entry f.entry ∷ []) all
            (All-cons (IsFlaw l) (flaw.Overlap k bad.0.entry f.entry) []
            (overlap_is bad.0 f (All-contains (IsFieldOf k o) s.fields bad.0 before bad.1) first
            (All-head (λ (g : FieldAt). bad.0.entry ≢ g.entry) f fs (All-contains (λ e. All (λ g. e.entry ≢ g.entry) (f ∷ fs)) s.fields bad.0 cross bad.1)) bad.2)
            (All-nil (IsFlaw l))))
      ])
    where
      n : Came
      n = added.0

      adds : AddsField k f s n
      adds = added.1

      first : IsFieldOf k o f
      first = All-head (IsFieldOf k o) f fs rest

  pub overlaps_hold : (s t : List ReferenceFlaw) → AddsOverlaps (k, o) s t → All (IsFlaw l) s → All (IsFlaw l) t
  overlaps_hold s t adds all =
      fields_hold adds.0 (came [] s) (came adds.0 t) (All-nil (IsFieldOf k o))
      (All-permutation (IsFieldOf k o) (fields_of k o) adds.0 adds.1 (fields_listed k o)) (All-nil (λ f. All (λ g. f.entry ≢ g.entry) adds.0))
      (AllPairs-permutation (λ f g. f.entry ≢ g.entry) (λ f g differ same. differ (sym same)) (fields_of k o) adds.0 adds.1 (fields_differ k o)) adds.3 all

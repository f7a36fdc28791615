-- Where the phase of references has no flaw, nothing in it refuses the link.
use Rattle.std.proofs.Common.{◌≡◌, ◌∙◌, inl, inr, ℕ, ◌+◌, ◌≤◌, List, [], ◌∷◌, ◌++◌, Option, None, Some, ap, arith, length, length-append, refl, subst, sym}
use Rattle.std.specs.Prelude.{All, AllPairs}
use Rattle.std.proofs.lemmas.List.{length-set}
use Rattle.std.proofs.lemmas.List.Elements.{All-cons, All-nil, All-weaker}
use Rattle.std.proofs.lemmas.List.Kept.{AllPairs-cons}
use Rattle.std.proofs.lemmas.List.Sorted.{IsPermutation-sym}
use Rattle.std.proofs.lemmas.Option.{none-some}
use Rattle.elf_model.proofs.Pairs.{AllPairs-append, AllPairs-nil}
use Rattle.elf_model.proofs.PairsPermuted.{AllPairs-permutation}
use Rattle.elf_model.specs.Link.Loading.{LoadedObject}
use Rattle.elf_model.specs.Link.Resolution.{IsEntry}
use Rattle.relocate.specs.declared.faults.RelocationFault.{RelocationFault}
use Rattle.relocate.specs.declared.faults.RelocationFault.TheVariants as wrong
use Rattle.flaws.specs.Flaws.{AreAdded}
use Rattle.wrong_references.specs.Entries.{EntryOf, entries}
use Rattle.wrong_references.specs.Overlaps.{AddsField, AddsOverlaps, AreApart, Came, came, fields_of, numbered}
use Rattle.wrong_references.specs.References.{AddsEntry, AddsLostEntry, AreReferable, AreReferenceFlaws, Told, flaw_at, nothing_told, with_fault, with_first}
use Rattle.wrong_references.specs.declared.flaw.ReferenceFlaw.{ReferenceFlaw}
use Rattle.wrong_references.specs.declared.flaw.ReferenceFlaw.TheVariants as flaw
use Rattle.wrong_references.specs.declared.overlaps.FieldAt.{FieldAt}
use Rattle.wrong_references.proofs.EntryFields.{AreApartFrom, IsWell, apart_of, lawful_of}

longer : (fs gs : List ReferenceFlaw) (f : ReferenceFlaw) → gs ≡ fs ++ f ∷ [] → length gs ≡ length fs + 1
longer fs gs f is = ap length is ∙ length-append fs (f ∷ [])

-- a name is told only where there is a flaw
abbrev IsBare : Told → Type 0
IsBare t = length t.flaws ≡ 0 → (n : List ℕ) → t.firsts n ≡ None

-- a fault adds a flaw, or there is one
faulty : (e : EntryOf) (fault : RelocationFault) (s : Told) → IsBare s → length (with_fault e fault s).flaws ≡ 0 → ⊥
faulty e wrong.Undefined s bare none = by (s.firsts e.relocation.symbol.name) refl none
  where
    by : (o : Option ℕ) → s.firsts e.relocation.symbol.name ≡ o → length (with_first o e.relocation.symbol.name (flaw_at e wrong.Undefined) s).flaws ≡ 0 → ⊥
    by None is empty = (let n = longer s.flaws _ (flaw_at e wrong.Undefined) refl in omega (arith, n, empty))
    by (Some i) is empty = none-some i (sym (bare (sym (length-set s.flaws i _) ∙ empty) e.relocation.symbol.name) ∙ is)
faulty e wrong.RefToDropped s bare none = let n = longer s.flaws _ (flaw_at e wrong.RefToDropped) refl in omega (arith, n, none)
faulty e wrong.RelocKind s bare none = let n = longer s.flaws _ (flaw_at e wrong.RelocKind) refl in omega (arith, n, none)
faulty e wrong.FieldOutside s bare none = let n = longer s.flaws _ (flaw_at e wrong.FieldOutside) refl in omega (arith, n, none)
faulty e wrong.TlsMismatch s bare none = let n = longer s.flaws _ (flaw_at e wrong.TlsMismatch) refl in omega (arith, n, none)
faulty e wrong.MixedSection s bare none = let n = longer s.flaws _ (flaw_at e wrong.MixedSection) refl in omega (arith, n, none)

module _ (objects : List LoadedObject) where
  -- an entry after which there is still no flaw is well
  entry_well : (e : EntryOf) (s t : Told) → IsBare s → AddsEntry objects e s t → IsBare t × (length t.flaws ≡ 0 → IsWell objects e × (length s.flaws ≡ 0))
  entry_well e s t bare adds = elim adds as (λ _. IsBare t × (length t.flaws ≡ 0 → IsWell objects e × (length s.flaws ≡ 0))) [
    | inl none ↦ (subst IsBare (sym none.1) bare, λ empty. (inl none.0, ap (λ (u : Told). length u.flaws) (sym none.1) ∙ empty))
    | inr (inl good) ↦ (subst IsBare (sym good.1) bare, λ empty. (inr good.0, ap (λ (u : Told). length u.flaws) (sym good.1) ∙ empty))
    | inr (inr bad) ↦
        let never : length t.flaws ≡ 0 → ⊥ = λ empty. faulty e bad.0 s bare (ap (λ (u : Told). length u.flaws) (sym bad.3) ∙ empty) in
        (λ empty n. absurd (never empty), λ empty. absurd (never empty))
  ]

  entries_well : (es : List EntryOf) (s t : Told) → IsBare s → AreAdded (AddsEntry objects) es s t → length t.flaws ≡ 0 → All (IsWell objects) es × (length s.flaws ≡ 0)
  entries_well [] s t bare same empty = (All-nil (IsWell objects), ap (λ (u : Told). length u.flaws) (sym same) ∙ empty)
  entries_well (e ∷ es) s t bare added empty =
      let first = entry_well e s added.0 bare added.1 in
      let rest = entries_well es added.0 t first.0 added.2 empty in
      let one = first.1 rest.1 in
      (All-cons (IsWell objects) e es one.0 rest.0, one.1)

-- fields after which there is still no flaw are apart
fields_well :
    (k : ℕ) (fs : List FieldAt) (s t : Came) → AllPairs AreApart s.fields → AreAdded (AddsField k) fs s t → length t.flaws ≡ 0 → AllPairs AreApart t.fields × (length s.flaws ≡ 0)
fields_well k [] s t pairs same empty = (subst (λ (c : Came). AllPairs AreApart c.fields) (sym same) pairs, ap (λ (c : Came). length c.flaws) (sym same) ∙ empty)
fields_well k (f ∷ fs) s t pairs added empty = elim added.1.1 as (λ _. AllPairs AreApart t.fields × (length s.flaws ≡ 0)) [
  | inl well ↦
      (let rest =
      fields_well k fs added.0 t
      (subst (AllPairs AreApart) (sym added.1.0)
      (AllPairs-append AreApart s.fields (f ∷ []) pairs (AllPairs-cons AreApart f [] (All-nil (AreApart f)) (AllPairs-nil AreApart))
      (All-weaker (λ g. AreApart g f) (λ g. All (AreApart g) (f ∷ [])) (λ g apart. All-cons (AreApart g) f [] apart (All-nil (AreApart g))) s.fields well.0)))
      added.2 empty in
      (rest.0, ap length (sym well.1) ∙ rest.1))
  | inr bad ↦
      (let n = longer s.flaws added.0.flaws (flaw.Overlap k bad.0.entry f.entry) bad.3 in
      let none = grown k fs added.0 t added.2 in
      absurd (omega (arith, n, none, empty)))
]
  where
    grown : (k : ℕ) (fs : List FieldAt) (s t : Came) → AreAdded (AddsField k) fs s t → length s.flaws ≤ length t.flaws
    grown k [] s t same = let n = ap (λ (c : Came). length c.flaws) same in omega (arith, n)
    grown k (f ∷ fs) s t added =
        let rest = grown k fs added.0 t added.2 in
        elim added.1.1 as (λ _. length s.flaws ≤ length t.flaws) [
          | inl well ↦ (let n = ap length well.1 in omega (arith, n, rest))
          | inr bad ↦ (let n = longer s.flaws added.0.flaws (flaw.Overlap k bad.0.entry f.entry) bad.3 in omega (arith, n, rest))
        ]

apart_sym : (f g : FieldAt) → AreApart f g → AreApart g f
apart_sym f g apart same n a low c high = apart (sym same) n c high a low

objects_well : (k : ℕ) (os : List LoadedObject) (s t : List ReferenceFlaw) → AreAdded AddsOverlaps (numbered k os) s t → length t ≡ 0 → AreApartFrom k os × (length s ≡ 0)
objects_well k [] s t same empty = (tt, ap length (sym same) ∙ empty)
objects_well k (o ∷ os) s t added empty =
    let rest = objects_well (k + 1) os added.0 t added.2 empty in
    let adds = added.1 in
    let here = fields_well k adds.0 (came [] s) (came adds.0 added.0) (AllPairs-nil AreApart) adds.3 rest.1 in
    ((AllPairs-permutation AreApart apart_sym adds.0 (fields_of k o) (IsPermutation-sym (fields_of k o) adds.0 adds.1) here.0, rest.0), here.1)

pub unwrong : (objects : List LoadedObject) (name : List ℕ) (flaws : List ReferenceFlaw) → AreReferenceFlaws objects name flaws → length flaws ≡ 0 → AreReferable objects name
unwrong objects name flaws are empty =
    let apart = objects_well 0 objects are.2 flaws are.4 empty in
    let lost = entry_there are.3 apart.1 in
    let well = entries_well objects (entries objects) nothing_told are.0 (λ none n. refl) are.1 lost.1 in
    record { lawful = record { each = lawful_of objects 0 objects well.0; apart = apart_of 0 objects apart.0 }; entry = lost.0 }
  where
    entry_there : AddsLostEntry objects name are.0.flaws are.2 → length are.2 ≡ 0 → IsEntry objects name × (length are.0.flaws ≡ 0)
    entry_there adds none = elim adds as (λ _. IsEntry objects name × (length are.0.flaws ≡ 0)) [
      | inl good ↦ (good.0, ap length (sym good.1) ∙ none)
      | inr bad ↦ absurd (let n = longer are.0.flaws are.2 flaw.Entry bad.1 in omega (arith, n, none))
    ]

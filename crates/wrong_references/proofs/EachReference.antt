-- Each of the flaws of references that are told is one.
use Rattle.std.proofs.Common.{◌≡◌, inl, inr, ℕ, Bool, true, false, List, [], ◌∷◌, ◌++◌, Option, None, Some, arith, get_or, length, nat_lt, refl, subst, sym}
use Rattle.std.specs.Prelude.{All}
use Rattle.std.specs.List.{slice_get}
use Rattle.std.proofs.lemmas.Bool.{ltb-false, ltb-true}
use Rattle.std.proofs.lemmas.List.{set_past}
use Rattle.std.proofs.lemmas.List.Elements.{All-append, All-cons, All-head, All-nil, All-set, All-tail}
use Rattle.elf_model.specs.Inputs.ObjectFile.{section, sections}
use Rattle.elf_model.specs.Link.Loading.{LoadedObject}
use Rattle.elf_model.specs.Link.Relocation.{relocation_of}
use Rattle.elf_model.specs.declared.records.Rela.{Rela}
use Rattle.relocate.specs.References.{IsUnlawful}
use Rattle.relocate.specs.declared.faults.RelocationFault.{RelocationFault}
use Rattle.relocate.specs.declared.faults.RelocationFault.TheVariants as wrong
use Rattle.search.proofs.KeptListLaws.{relas_kept}
use Rattle.search.specs.KeptLists.{IsKeptRela, kept_relas}
use Rattle.search.specs.Loads.{LoadedPlan}
use Rattle.search.specs.declared.kept_lists.KeptRela.{KeptRela}
use Rattle.flaws.proofs.Located.{of_each}
use Rattle.flaws.specs.Flaws.{AreAdded}
use Rattle.wrong_references.specs.Entries.{EntryOf, entries, entries_in, entries_of, entries_of_relas, entry_of, rela_entries}
use Rattle.wrong_references.specs.Overlaps.{AddsOverlaps, numbered}
use Rattle.wrong_references.specs.References.{AddsEntry, AddsLostEntry, AreReferenceFlaws, IsFlaw, Told, counted, counted_at, flaw_at, nothing_told, with_fault, with_first}
use Rattle.wrong_references.specs.declared.flaw.ReferenceFlaw.{ReferenceFlaw}
use Rattle.wrong_references.specs.declared.flaw.ReferenceFlaw.TheVariants as flaw
use Rattle.wrong_references.proofs.EachOverlap.{overlaps_hold}

-- what holds of all flaws holds of those with one more
more_hold : (F : ReferenceFlaw → Type 0) (fs : List ReferenceFlaw) (f : ReferenceFlaw) → F f → All F fs → All F (fs ++ f ∷ [])
more_hold F fs f so all = All-append F fs (f ∷ []) all (All-cons F f [] so (All-nil F))

abbrev Keeps : {B : Type 0} → (B → Type 0) → (B → B → Type 0) → Type 0
Keeps {B} F Step = (s t : B) → Step s t → F s → F t

added_keep : {A B : Type 0} (F : B → Type 0) (Of : A → B → B → Type 0) (xs : List A) → All (λ x. Keeps F (Of x)) xs → Keeps F (AreAdded Of xs)
added_keep F Of [] each s t same all = subst F (sym same) all
added_keep {A} F Of (x ∷ xs) each s t added all =
    added_keep F Of xs (All-tail (λ (y : A). Keeps F (Of y)) x xs each) added.0 t added.2
    (All-head (λ (y : A). Keeps F (Of y)) x xs each s added.0 added.1 all)

module _ (l : LoadedPlan) where
  abbrev objects : List LoadedObject
  objects = l.objects

  abbrev Hold : List ReferenceFlaw → Type 0
  Hold fs = All (IsFlaw l) fs

  -- a count says nothing of what a flaw is
  counted_holds : (f : ReferenceFlaw) → IsFlaw l f → IsFlaw l (counted f)
  counted_holds (flaw.Relocation k e fault others) is = is
  counted_holds flaw.Entry is = is
  counted_holds (flaw.Overlap k e f) is = is

  counts_hold : (fs : List ReferenceFlaw) (i : ℕ) → Hold fs → Hold (counted_at i fs)
  counts_hold fs i all = by (nat_lt i (length fs)) refl
    where
      by : (b : Bool) → nat_lt i (length fs) ≡ b → Hold (counted_at i fs)
      by true e = All-set (IsFlaw l) fs i (counted (get_or fs i flaw.Entry)) (counted_holds (get_or fs i flaw.Entry) (all i flaw.Entry (ltb-true i (length fs) e))) all
      by false e = subst Hold (sym (set_past fs i (counted (get_or fs i flaw.Entry)) (ltb-false i (length fs) e))) all

  name_holds : (o : Option ℕ) (name : List ℕ) (f : ReferenceFlaw) (t : Told) → IsFlaw l f → Hold t.flaws → Hold (with_first o name f t).flaws
  name_holds None name f t so all = more_hold (IsFlaw l) t.flaws f so all
  name_holds (Some i) name f t so all = counts_hold t.flaws i all

  fault_holds : (e : EntryOf) (fault : RelocationFault) (t : Told) → IsFlaw l (flaw_at e fault) → Hold t.flaws → Hold (with_fault e fault t).flaws
  fault_holds e wrong.Undefined t so all = name_holds (t.firsts e.relocation.symbol.name) e.relocation.symbol.name (flaw_at e wrong.Undefined) t so all
  fault_holds e wrong.RefToDropped t so all = more_hold (IsFlaw l) t.flaws (flaw_at e wrong.RefToDropped) so all
  fault_holds e wrong.RelocKind t so all = more_hold (IsFlaw l) t.flaws (flaw_at e wrong.RelocKind) so all
  fault_holds e wrong.FieldOutside t so all = more_hold (IsFlaw l) t.flaws (flaw_at e wrong.FieldOutside) so all
  fault_holds e wrong.TlsMismatch t so all = more_hold (IsFlaw l) t.flaws (flaw_at e wrong.TlsMismatch) so all
  fault_holds e wrong.MixedSection t so all = more_hold (IsFlaw l) t.flaws (flaw_at e wrong.MixedSection) so all

  abbrev HoldsTold : Told → Type 0
  HoldsTold t = Hold t.flaws

  entry_keeps :
      (k n : ℕ) (o : LoadedObject) (rela : KeptRela) (x : Rela) → slice_get objects k ≡ Some o → IsKeptRela o rela → slice_get (rela_entries o rela) n ≡ Some x →
      Keeps HoldsTold (AddsEntry objects (entry_of k o rela n x))
  entry_keeps k n o rela x object kept there s t adds all = elim adds as (λ _. Hold t.flaws) [
    | inl none ↦ subst HoldsTold (sym none.1) all
    | inr (inl good) ↦ subst HoldsTold (sym good.1) all
    | inr (inr bad) ↦
        subst HoldsTold (sym bad.3)
        (fault_holds (entry_of k o rela n x) bad.0 s (
          record {
            o = o;
            h = section (sections o.bytes) rela.number;
            x = x;
            object = object;
            table = kept.there;
            kept = kept.kept;
            entry = there;
            some_kind = bad.1;
          },
          subst (λ (i : ℕ). IsUnlawful objects (relocation_of k o i x) bad.0) kept.target_is bad.2,
        ) all)
  ]

  relas_keep :
      (k : ℕ) (o : LoadedObject) → slice_get objects k ≡ Some o → (relas : List KeptRela) → All (IsKeptRela o) relas →
      All (λ e. Keeps HoldsTold (AddsEntry objects e)) (entries_of_relas k o relas)
  relas_keep k o object [] kept = All-nil (λ (e : EntryOf). Keeps HoldsTold (AddsEntry objects e))
  relas_keep k o object (rela ∷ relas) kept =
      All-append (λ (e : EntryOf). Keeps HoldsTold (AddsEntry objects e)) (entries_in k o rela 0 (rela_entries o rela)) (entries_of_relas k o relas)
      (of_each (λ (e : EntryOf). Keeps HoldsTold (AddsEntry objects e)) (λ n x. entry_of k o rela n x ∷ []) (entries_in k o rela) (λ n. refl) (λ n x xs. refl) (rela_entries o rela) 0
      (λ n i x is there.
      All-cons (λ (e : EntryOf). Keeps HoldsTold (AddsEntry objects e)) (entry_of k o rela n x) []
      (entry_keeps k n o rela x object (All-head (IsKeptRela o) rela relas kept)
      (let same : i ≡ n = omega (arith, is) in subst (λ (m : ℕ). slice_get (rela_entries o rela) m ≡ Some x) same there))
      (All-nil (λ (e : EntryOf). Keeps HoldsTold (AddsEntry objects e)))))
      (relas_keep k o object relas (All-tail (IsKeptRela o) rela relas kept))

  all_keep : All (λ e. Keeps HoldsTold (AddsEntry objects e)) (entries objects)
  all_keep =
      of_each (λ (e : EntryOf). Keeps HoldsTold (AddsEntry objects e)) (λ k o. entries_of_relas k o (kept_relas o)) entries_of (λ k. refl) (λ k o os. refl) objects 0
      (λ n k o is there.
      relas_keep n o (let same : k ≡ n = omega (arith, is) in subst (λ (m : ℕ). slice_get objects m ≡ Some o) same there) (kept_relas o) (relas_kept n o))

  lost_keeps : (s t : List ReferenceFlaw) → AddsLostEntry objects l.plan.entry s t → Hold s → Hold t
  lost_keeps s t adds all = elim adds as (λ _. Hold t) [
    | inl good ↦ subst Hold (sym good.1) all
    | inr bad ↦ subst Hold (sym bad.1) (more_hold (IsFlaw l) s flaw.Entry bad.0 all)
  ]

  all_overlaps : All (λ p. Keeps Hold (AddsOverlaps p)) (numbered 0 objects)
  all_overlaps =
      of_each (λ (p : ℕ × LoadedObject). Keeps Hold (AddsOverlaps p)) (λ k o. (k, o) ∷ []) numbered (λ k. refl) (λ k o os. refl) objects 0
      (λ n k o is there.
      All-cons (λ (p : ℕ × LoadedObject). Keeps Hold (AddsOverlaps p)) (n, o) []
      (overlaps_hold l n o (let same : k ≡ n = omega (arith, is) in subst (λ (m : ℕ). slice_get objects m ≡ Some o) same there))
      (All-nil (λ (p : ℕ × LoadedObject). Keeps Hold (AddsOverlaps p))))

  pub reference_each : (flaws : List ReferenceFlaw) → AreReferenceFlaws objects l.plan.entry flaws → Hold flaws
  reference_each flaws are =
      added_keep Hold AddsOverlaps (numbered 0 objects) all_overlaps are.2 flaws are.4
      (lost_keeps are.0.flaws are.2 are.3 (added_keep HoldsTold (AddsEntry objects) (entries objects) all_keep nothing_told are.0 are.1 (All-nil (IsFlaw l))))

-- Each of the flaws of a layout that are told is one.
use Rattle.std.proofs.Common.{◌≡◌, inl, inr, ℕ, List, [], ◌∷◌, ◌++◌, Some, arith, refl, subst, sym}
use Rattle.std.specs.Prelude.{All}
use Rattle.std.specs.List.{slice_get}
use Rattle.std.proofs.lemmas.List.Elements.{All-append, All-cons, All-head, All-nil, All-tail}
use Rattle.elf_model.specs.Inputs.ObjectFile.{section, sections}
use Rattle.elf_model.specs.Link.Loading.{LoadedObject}
use Rattle.elf_model.specs.Link.Pieces.{kept_sections}
use Rattle.elf_model.specs.Link.Placement.{Where}
use Rattle.elf_model.specs.Link.Relocation.{relocation_of}
use Rattle.elf_model.specs.Link.RelocationValues.{Fits, value_of}
use Rattle.elf_model.specs.declared.records.Rela.{Rela}
use Rattle.layout.specs.Placements.{Basis}
use Rattle.relocate.specs.Values.{where_in}
use Rattle.search.proofs.KeptListLaws.{relas_kept}
use Rattle.search.specs.KeptLists.{IsKeptRela, kept_relas}
use Rattle.search.specs.declared.kept_lists.KeptRela.{KeptRela}
use Rattle.flaws.proofs.Located.{each_piece, of_each}
use Rattle.flaws.specs.Flaws.{AreAdded}
use Rattle.wrong_references.specs.Entries.{EntryOf, entries, entries_in, entries_of, entries_of_relas, entry_of, rela_entries}
use Rattle.layout_flaws.specs.LayoutFlaws.{AddsLarge, AddsUnfit, AreLargeSections, AreUnfitValues, IsLargeSection, IsUnfitValue, field_address}
use Rattle.layout_flaws.specs.declared.flaw.LayoutFlaw.{LayoutFlaw}
use Rattle.layout_flaws.specs.declared.flaw.LayoutFlaw.TheVariants as flaw

-- what holds of all flaws holds of those with one more
more_hold : (F : LayoutFlaw → Type 0) (fs : List LayoutFlaw) (f : LayoutFlaw) → F f → All F fs → All F (fs ++ f ∷ [])
more_hold F fs f so all = All-append F fs (f ∷ []) all (All-cons F f [] so (All-nil F))

-- a step keeps what holds of all flaws
abbrev Keeps : (LayoutFlaw → Type 0) → (List LayoutFlaw → List LayoutFlaw → Type 0) → Type 0
Keeps F Step = (s t : List LayoutFlaw) → Step s t → All F s → All F t

added_keep : {A : Type 0} (F : LayoutFlaw → Type 0) (Of : A → List LayoutFlaw → List LayoutFlaw → Type 0) (xs : List A) → All (λ x. Keeps F (Of x)) xs → Keeps F (AreAdded Of xs)
added_keep F Of [] each s t same all = subst (All F) (sym same) all
added_keep {A} F Of (x ∷ xs) each s t added all =
    added_keep F Of xs (All-tail (λ (y : A). Keeps F (Of y)) x xs each) added.0 t added.2
    (All-head (λ (y : A). Keeps F (Of y)) x xs each s added.0 added.1 all)

module _ (b : Basis) where
  abbrev objects : List LoadedObject
  objects = b.objects

  abbrev w : Where
  w = where_in b

  sections_keep : All (λ p. Keeps (IsLargeSection b) (AddsLarge b.base p)) (kept_sections objects)
  sections_keep =
      each_piece objects (λ p. Keeps (IsLargeSection b) (AddsLarge b.base p))
      (λ k i o h object section kept s t adds all.
      elim adds as (λ _. All (IsLargeSection b) t) [
        | inl small ↦ subst (All (IsLargeSection b)) (sym small.1) all
        | inr large ↦
            subst (All (IsLargeSection b)) (sym large.1)
            (more_hold (IsLargeSection b) s (flaw.Large k i) (record { o = o; h = h; object = object; section = section; kept = kept; wrong = large.0 }, tt) all)
      ])

  pub large_each : (flaws : List LayoutFlaw) → AreLargeSections b flaws → All (IsLargeSection b) flaws
  large_each flaws are = added_keep (IsLargeSection b) (AddsLarge b.base) (kept_sections objects) sections_keep [] flaws are (All-nil (IsLargeSection b))

  entry_keeps :
      (k n : ℕ) (o : LoadedObject) (rela : KeptRela) (x : Rela) → slice_get objects k ≡ Some o → IsKeptRela o rela → slice_get (rela_entries o rela) n ≡ Some x →
      Keeps (IsUnfitValue b) (AddsUnfit objects w (entry_of k o rela n x))
  entry_keeps k n o rela x object kept there s t adds all = elim adds as (λ _. All (IsUnfitValue b) t) [
    | inl none ↦ subst (All (IsUnfitValue b)) (sym none.1) all
    | inr (inl fits) ↦ subst (All (IsUnfitValue b)) (sym fits.1) all
    | inr (inr bad) ↦
        subst (All (IsUnfitValue b)) (sym bad.2)
        (more_hold (IsUnfitValue b) s
        (flaw.Unfit k (record { table = rela.number; number = n }) (value_of objects w (relocation_of k o rela.target x)) (field_address w (relocation_of k o rela.target x))) (
          record {
            at = record {
              o = o;
              h = section (sections o.bytes) rela.number;
              x = x;
              object = object;
              table = kept.there;
              kept = kept.kept;
              entry = there;
              some_kind = bad.0;
            };
            value_is = (λ j. value_of objects w (relocation_of k o (kept.target_is j) x));
            address_is = (λ j. field_address w (relocation_of k o (kept.target_is j) x));
            wrong = subst (λ (i : ℕ). ¬ Fits objects w (relocation_of k o i x)) kept.target_is bad.1;
          },
          tt,
        )
        all)
  ]

  relas_keep :
      (k : ℕ) (o : LoadedObject) → slice_get objects k ≡ Some o → (relas : List KeptRela) → All (IsKeptRela o) relas →
      All (λ e. Keeps (IsUnfitValue b) (AddsUnfit objects w e)) (entries_of_relas k o relas)
  relas_keep k o object [] kept = All-nil (λ (e : EntryOf). Keeps (IsUnfitValue b) (AddsUnfit objects w e))
  relas_keep k o object (rela ∷ relas) kept =
      All-append (λ (e : EntryOf). Keeps (IsUnfitValue b) (AddsUnfit objects w e)) (entries_in k o rela 0 (rela_entries o rela)) (entries_of_relas k o relas)
      (of_each (λ (e : EntryOf). Keeps (IsUnfitValue b) (AddsUnfit objects w e)) (λ n x. entry_of k o rela n x ∷ []) (entries_in k o rela) (λ n. refl) (λ n x xs. refl) (rela_entries o rela) 0
      (λ n i x is there.
      All-cons (λ (e : EntryOf). Keeps (IsUnfitValue b) (AddsUnfit objects w e)) (entry_of k o rela n x) []
      (entry_keeps k n o rela x object (All-head (IsKeptRela o) rela relas kept)
      (let same : i ≡ n = omega (arith, is) in subst (λ (m : ℕ). slice_get (rela_entries o rela) m ≡ Some x) same there))
      (All-nil (λ (e : EntryOf). Keeps (IsUnfitValue b) (AddsUnfit objects w e)))))
      (relas_keep k o object relas (All-tail (IsKeptRela o) rela relas kept))

  all_keep : All (λ e. Keeps (IsUnfitValue b) (AddsUnfit objects w e)) (entries objects)
  all_keep =
      of_each (λ (e : EntryOf). Keeps (IsUnfitValue b) (AddsUnfit objects w e)) (λ k o. entries_of_relas k o (kept_relas o)) entries_of (λ k. refl) (λ k o os. refl) objects 0
      (λ n k o is there.
      relas_keep n o (let same : k ≡ n = omega (arith, is) in subst (λ (m : ℕ). slice_get objects m ≡ Some o) same there) (kept_relas o) (relas_kept n o))

  pub unfit_each : (flaws : List LayoutFlaw) → AreUnfitValues b flaws → All (IsUnfitValue b) flaws
  unfit_each flaws are = added_keep (IsUnfitValue b) (AddsUnfit objects w) (entries objects) all_keep [] flaws are (All-nil (IsUnfitValue b))

-- Where no value is told as unfit, all values fit.
use Rattle.std.proofs.Common.{◌≡◌, ◌∙◌, ◌⊎◌, inl, inr, ℕ, ◌+◌, Bool, true, false, cond, List, [], ◌∷◌, ◌++◌, ap, arith, length, length-append, map, refl, subst, sym}
use Rattle.std.specs.Prelude.{All, filter}
use Rattle.std.proofs.lemmas.Bool.{false≢true}
use Rattle.std.proofs.lemmas.List.Elements.{All-append, All-cons, All-head, All-nil, All-tail}
use Rattle.elf_model.proofs.Listed.{All-parts}
use Rattle.elf_model.specs.Link.Loading.{LoadedObject}
use Rattle.elf_model.specs.Link.Placement.{Where}
use Rattle.elf_model.specs.Link.Relocation.{Relocation, is_some_kind, relocation_of, relocations_from, relocations_of}
use Rattle.elf_model.specs.Link.RelocationValues.{Fits}
use Rattle.elf_model.specs.Own.OwnLayout.{OwnValuesFit}
use Rattle.elf_model.specs.declared.records.Rela.{Rela}
use Rattle.layout.specs.Placements.{Basis}
use Rattle.relocate.specs.Values.{where_in}
use Rattle.search.proofs.KeptListLaws.{relas_kept, relocations_listed}
use Rattle.search.specs.KeptLists.{IsKeptRela, kept_relas, relocations_by, relocations_of_relas}
use Rattle.search.specs.declared.kept_lists.KeptRela.{KeptRela}
use Rattle.flaws.specs.Flaws.{AreAdded}
use Rattle.wrong_references.specs.Entries.{EntryOf, entries, entries_in, entries_of, entries_of_relas, entry_of, rela_entries}
use Rattle.layout_flaws.specs.LayoutFlaws.{AddsUnfit, AreUnfitValues, unfit_at}
use Rattle.layout_flaws.specs.declared.flaw.LayoutFlaw.{LayoutFlaw}

-- what holds of each entry but those of type NONE holds of all kept relocations
module _ (Good : Relocation → Type 0) where
  abbrev IsWell : EntryOf → Type 0
  IsWell e = (is_some_kind e.relocation.entry ≡ false) ⊎ Good e.relocation

  good_in : (k : ℕ) (o : LoadedObject) (rela : KeptRela) (n : ℕ) (xs : List Rela) → All IsWell (entries_in k o rela n xs) → All Good (map (relocation_of k o rela.target) (filter is_some_kind xs))
  good_in k o rela n [] all = All-nil Good
  good_in k o rela n (x ∷ xs) all =
      by (is_some_kind x) refl (All-head IsWell (entry_of k o rela n x) (entries_in k o rela (n + 1) xs) all)
      (good_in k o rela (n + 1) xs (All-tail IsWell (entry_of k o rela n x) (entries_in k o rela (n + 1) xs) all))
    where
      by :
          (b : Bool) → is_some_kind x ≡ b → IsWell (entry_of k o rela n x) → All Good (map (relocation_of k o rela.target) (filter is_some_kind xs)) →
          All Good (map (relocation_of k o rela.target) (cond b (x ∷ filter is_some_kind xs) (filter is_some_kind xs)))
      by true e well rest =
          All-cons Good (relocation_of k o rela.target x) (map (relocation_of k o rela.target) (filter is_some_kind xs))
          (elim well as (λ _. Good (relocation_of k o rela.target x)) [ inl none ↦ absurd (false≢true (sym none ∙ e)) | inr good ↦ good ]) rest
      by false e well rest = rest

  good_of_relas : (k : ℕ) (o : LoadedObject) (relas : List KeptRela) → All (IsKeptRela o) relas → All IsWell (entries_of_relas k o relas) → All Good (relocations_of_relas k o relas)
  good_of_relas k o [] kept all = All-nil Good
  good_of_relas k o (rela ∷ relas) kept all =
      let parts = All-parts IsWell (entries_in k o rela 0 (rela_entries o rela)) (entries_of_relas k o relas) all in
      All-append Good (relocations_by k o rela) (relocations_of_relas k o relas)
      (subst (λ (i : ℕ). All Good (map (relocation_of k o i) (filter is_some_kind (rela_entries o rela)))) (All-head (IsKeptRela o) rela relas kept).target_is
      (good_in k o rela 0 (rela_entries o rela) parts.0))
      (good_of_relas k o relas (All-tail (IsKeptRela o) rela relas kept) parts.1)

  pub good_of : (k : ℕ) (os : List LoadedObject) → All IsWell (entries_of k os) → All Good (relocations_of k os)
  good_of k [] all = All-nil Good
  good_of k (o ∷ os) all =
      let parts = All-parts IsWell (entries_of_relas k o (kept_relas o)) (entries_of (k + 1) os) all in
      All-append Good (relocations_from k o) (relocations_of (k + 1) os)
      (subst (All Good) (sym (relocations_listed k o)) (good_of_relas k o (kept_relas o) (relas_kept k o) parts.0)) (good_of (k + 1) os parts.1)

module _ (objects : List LoadedObject) (w : Where) where
  abbrev HasFit : EntryOf → Type 0
  HasFit e = IsWell (Fits objects w) e

  -- an entry after which there is still no flaw fits
  entry_fits : (e : EntryOf) (s t : List LayoutFlaw) → AddsUnfit objects w e s t → length t ≡ 0 → HasFit e × (length s ≡ 0)
  entry_fits e s t adds empty = elim adds as (λ _. HasFit e × (length s ≡ 0)) [
    | inl none ↦ (inl none.0, ap length (sym none.1) ∙ empty)
    | inr (inl fits) ↦ (inr fits.0, ap length (sym fits.1) ∙ empty)
    | inr (inr bad) ↦ absurd (let n = ap length bad.2 ∙ length-append s (unfit_at objects w e ∷ []) in omega (arith, n, empty))
  ]

  pub entries_fit : (es : List EntryOf) (s t : List LayoutFlaw) → AreAdded (AddsUnfit objects w) es s t → length t ≡ 0 → All HasFit es × (length s ≡ 0)
  entries_fit [] s t same empty = (All-nil HasFit, ap length (sym same) ∙ empty)
  entries_fit (e ∷ es) s t added empty =
      let rest = entries_fit es added.0 t added.2 empty in
      let one = entry_fits e s added.0 added.1 rest.1 in
      (All-cons HasFit e es one.0 rest.0, one.1)

pub all_fit : (b : Basis) (flaws : List LayoutFlaw) → AreUnfitValues b flaws → length flaws ≡ 0 → OwnValuesFit b.base b.objects
all_fit b flaws are empty =
    good_of (Fits b.objects (where_in b)) 0 b.objects (entries_fit b.objects (where_in b) (entries b.objects) [] flaws are empty).0

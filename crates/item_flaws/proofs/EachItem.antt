-- Each of the flaws of items that are told is one, and of its kind.
use Rattle.std.proofs.Common.{◌≡◌, inl, inr, ℕ, zero, suc, ◌+◌, List, [], ◌∷◌, ◌++◌, Option, Some, arith, refl, subst, sym}
use Rattle.std.specs.Prelude.{All}
use Rattle.std.specs.List.{slice_get}
use Rattle.std.proofs.lemmas.List.Elements.{All-append, All-cons, All-nil}
use Rattle.elf_model.specs.Inputs.Command.{Item, Plan}
use Rattle.elf_model.specs.Inputs.Files.{File}
use Rattle.elf_model.specs.Inputs.Opening.{Opened, opened, opened_from, opened_item}
use Rattle.flaws.specs.Flaws.{AreAdded}
use Rattle.search.specs.declared.loader.Reached.{Reached}
use Rattle.item_flaws.specs.ItemFlaws.{AddsMissing, AddsStopped, AddsUnreadable, AddsUnsearchable, AreBadObjects, AreMissingItems, AreUnsearchableItems, IsBadObjectFlaw, IsItemAt, IsMissingItem, IsOffsetOf, IsOpenedAt, IsUnsearchableItem, numbered}
use Rattle.item_flaws.specs.declared.flaw.ItemFlaw.{ItemFlaw}
use Rattle.item_flaws.specs.declared.flaw.ItemFlaw.TheVariants as flaw

-- what holds of all flaws holds of those with one more
more_hold : (F : ItemFlaw → Type 0) (fs : List ItemFlaw) (f : ItemFlaw) → F f → All F fs → All F (fs ++ f ∷ [])
more_hold F fs f so all = All-append F fs (f ∷ []) all (All-cons F f [] so (All-nil F))

-- a step keeps what holds of all flaws
abbrev Keeps : (ItemFlaw → Type 0) → (List ItemFlaw → List ItemFlaw → Type 0) → Type 0
Keeps F Step = (s t : List ItemFlaw) → Step s t → All F s → All F t

module _ (files : List File) (plan : Plan) where
  -- the items from number k on keep it, where each item does that has its number
  missing_keep :
      (items : List Item) (k : ℕ) → ((i n : ℕ) (item : Item) → n ≡ k + i → slice_get items i ≡ Some item → slice_get plan.items n ≡ Some item) →
      Keeps (IsMissingItem files plan) (AreAdded (AddsMissing files plan.directories) (numbered k items))
  missing_keep [] k there s t same all = subst (All (IsMissingItem files plan)) (sym same) all
  missing_keep (item ∷ items) k there s t added all =
      missing_keep items (k + 1) (λ i n x is at. there (suc i) n x (omega (arith, is)) at) added.0 t added.2
      (elim added.1 as (λ _. All (IsMissingItem files plan) added.0) [
        | inl well ↦ subst (All (IsMissingItem files plan)) (sym well.1) all
        | inr bad ↦
            subst (All (IsMissingItem files plan)) (sym bad.3)
            (more_hold (IsMissingItem files plan) s (flaw.Missing k bad.1)
            (record { item = item; there = there 0 k item (omega arith) refl; source_is = bad.2; missing = bad.0 }, tt) all)
      ])

  pub missing_each : (flaws : List ItemFlaw) → AreMissingItems files plan flaws → All (IsMissingItem files plan) flaws
  missing_each flaws are =
      missing_keep plan.items 0
      (λ i n x is at. let same : i ≡ n = omega (arith, is) in subst (λ (m : ℕ). slice_get plan.items m ≡ Some x) same at)
      [] flaws are (All-nil (IsMissingItem files plan))

  -- opened items, likewise
  opened_keep :
      (F : ItemFlaw → Type 0) (Of : Opened → List ItemFlaw → List ItemFlaw → Type 0) → ((o : Opened) → slice_get (opened files plan) o.number ≡ Some o → Keeps F (Of o)) →
      (items : List Item) (k : ℕ) →
      ((i n : ℕ) (o : Opened) → n ≡ k + i → slice_get (opened_from files plan.directories k items) i ≡ Some o → slice_get (opened files plan) n ≡ Some o) →
      Keeps F (AreAdded Of (opened_from files plan.directories k items))
  opened_keep F Of each [] k there s t same all = subst (All F) (sym same) all
  opened_keep F Of each (item ∷ items) k there s t added all =
      opened_keep F Of each items (k + 1) (λ i n x is at. there (suc i) n x (omega (arith, is)) at) added.0 t added.2
      (each (opened_item files plan.directories k item) (there 0 k (opened_item files plan.directories k item) (omega arith) refl) s added.0 added.1 all)

  all_opened_keep :
      (F : ItemFlaw → Type 0) (Of : Opened → List ItemFlaw → List ItemFlaw → Type 0) → ((o : Opened) → slice_get (opened files plan) o.number ≡ Some o → Keeps F (Of o)) →
      Keeps F (AreAdded Of (opened files plan))
  all_opened_keep F Of each =
      opened_keep F Of each plan.items 0
      (λ i n x is at. let same : i ≡ n = omega (arith, is) in subst (λ (m : ℕ). slice_get (opened files plan) m ≡ Some x) same at)

  -- an opened item, where its flaw is
  item_at : (o : Opened) (p : Reached) (Stands : Opened → Type 0) → slice_get (opened files plan) o.number ≡ Some o → IsOpenedAt p o → Stands o → IsItemAt files plan p Stands
  item_at o p Stands there at stands = record {
    item = o;
    there = subst (λ (n : ℕ). slice_get (opened files plan) n ≡ Some o) (sym at.number) there;
    path = at.path;
    bytes = at.bytes;
    stands = stands;
  }

  archive_keeps : (o : Opened) → slice_get (opened files plan) o.number ≡ Some o → Keeps (IsUnsearchableItem files plan) (AddsUnsearchable o)
  archive_keeps o there s t adds all = elim adds as (λ _. All (IsUnsearchableItem files plan) t) [
    | inl well ↦ subst (All (IsUnsearchableItem files plan)) (sym well.1) all
    | inr (inl bad) ↦
        let told = bad.4 in
        subst (All (IsUnsearchableItem files plan)) (sym bad.5)
        (more_hold (IsUnsearchableItem files plan) s bad.1
        (subst (IsUnsearchableItem files plan) (sym told.is) (
          (
            item_at o told.p _ there told.at (bad.2, bad.3),
            subst (λ (bytes : List ℕ). IsOffsetOf bytes bad.0 told.p.offset) (sym told.at.bytes) told.offset,
          ),
          tt,
        ))
        all)
    | inr (inr bad) ↦
        let told = bad.2 in
        subst (All (IsUnsearchableItem files plan)) (sym bad.3)
        (more_hold (IsUnsearchableItem files plan) s bad.0 (subst (IsUnsearchableItem files plan) (sym told.is) (item_at o told.p _ there told.at bad.1, tt)) all)
  ]

  pub archives_each : (flaws : List ItemFlaw) → AreUnsearchableItems files plan flaws → All (IsUnsearchableItem files plan) flaws
  archives_each flaws are = all_opened_keep (IsUnsearchableItem files plan) AddsUnsearchable archive_keeps [] flaws are (All-nil (IsUnsearchableItem files plan))

  stopped_keeps : (stop : Option ℕ) → Keeps (IsBadObjectFlaw files plan) (AddsStopped files plan stop)
  stopped_keeps stop s t adds all = elim adds as (λ _. All (IsBadObjectFlaw files plan) t) [
    | inl none ↦ subst (All (IsBadObjectFlaw files plan)) (sym none.2) all
    | inr (inl bad) ↦
        subst (All (IsBadObjectFlaw files plan)) (sym bad.4)
        (more_hold (IsBadObjectFlaw files plan) s (flaw.Object bad.0 bad.1) (inl bad.3, tt) all)
    | inr (inr bad) ↦
        subst (All (IsBadObjectFlaw files plan)) (sym bad.4)
        (more_hold (IsBadObjectFlaw files plan) s (flaw.Groups bad.0 bad.1) (bad.3, tt) all)
  ]

  object_keeps : (stop : Option ℕ) (o : Opened) → slice_get (opened files plan) o.number ≡ Some o → Keeps (IsBadObjectFlaw files plan) (AddsUnreadable stop o)
  object_keeps stop o there s t adds all = elim adds as (λ _. All (IsBadObjectFlaw files plan) t) [
    | inl archive ↦ subst (All (IsBadObjectFlaw files plan)) (sym archive.1) all
    | inr (inl told) ↦ subst (All (IsBadObjectFlaw files plan)) (sym told.1) all
    | inr (inr (inl good)) ↦ subst (All (IsBadObjectFlaw files plan)) (sym good.1) all
    | inr (inr (inr bad)) ↦
        subst (All (IsBadObjectFlaw files plan)) (sym bad.6)
        (more_hold (IsBadObjectFlaw files plan) s (flaw.Object bad.0 bad.1) (inr (item_at o bad.0 _ there bad.3 (bad.4, bad.5)), tt) all)
  ]

  pub objects_each : (flaws : List ItemFlaw) → AreBadObjects files plan flaws → All (IsBadObjectFlaw files plan) flaws
  objects_each flaws are =
      all_opened_keep (IsBadObjectFlaw files plan) (AddsUnreadable are.0) (object_keeps are.0) are.1 flaws are.3
      (stopped_keeps are.0 [] are.1 are.2 (All-nil (IsBadObjectFlaw files plan)))

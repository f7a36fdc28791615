-- Where no flaw of items is told, they have none of its kind.
use Rattle.std.proofs.Common.{◌≡◌, ◌∙◌, inl, inr, ℕ, ◌+◌, ◌≤◌, List, [], ◌∷◌, ◌++◌, Option, ap, arith, length, length-append}
use Rattle.std.specs.Prelude.{All}
use Rattle.std.proofs.lemmas.List.Elements.{All-cons, All-nil, All-weaker}
use Rattle.elf_model.specs.Inputs.Command.{Item, Plan}
use Rattle.elf_model.specs.Inputs.Files.{File}
use Rattle.elf_model.specs.Inputs.ObjectFile.{IsObject}
use Rattle.elf_model.specs.Inputs.Opening.{AreArchives, AreFilesThere, HasFile, HaveIndexes, Opened, opened}
use Rattle.flaws.specs.Flaws.{AreAdded}
use Rattle.opening.specs.Faults.{IsSearchable}
use Rattle.item_flaws.specs.ItemFlaws.{AddsMissing, AddsStopped, AddsUnreadable, AddsUnsearchable, AreBadObjects, AreMissingItems, AreUnsearchableItems, IsLoadable, IsSearchedWell, numbered}
use Rattle.item_flaws.specs.declared.flaw.ItemFlaw.{ItemFlaw}
use Rattle.item_flaws.specs.declared.flaw.ItemFlaw.TheVariants as flaw

longer : (s t : List ItemFlaw) (f : ItemFlaw) → t ≡ s ++ f ∷ [] → length t ≡ 0 → ⊥
longer s t f is empty = let n = ap length is ∙ length-append s (f ∷ []) in omega (arith, n, empty)

still : (s t : List ItemFlaw) → t ≡ s → length t ≡ 0 → length s ≡ 0
still s t is empty = let n = ap length is in omega (arith, n, empty)

module _ (files : List File) (directories : List (List ℕ)) where
  files_there : (items : List Item) (k : ℕ) (s t : List ItemFlaw) → AreAdded (AddsMissing files directories) (numbered k items) s t → length t ≡ 0 → All (HasFile files directories) items × (length s ≡ 0)
  files_there [] k s t same empty = (All-nil (HasFile files directories), still s t same empty)
  files_there (item ∷ items) k s t added empty =
      let rest = files_there items (k + 1) added.0 t added.2 empty in
      elim added.1 as (λ _. All (HasFile files directories) (item ∷ items) × (length s ≡ 0)) [
        | inl well ↦ (All-cons (HasFile files directories) item items well.0 rest.0, still s added.0 well.1 rest.1)
        | inr bad ↦ absurd (longer s added.0 (flaw.Missing k bad.1) bad.3 rest.1)
      ]

pub none_missing : (files : List File) (plan : Plan) (flaws : List ItemFlaw) → AreMissingItems files plan flaws → length flaws ≡ 0 → AreFilesThere files plan
none_missing files plan flaws are empty = (files_there files plan.directories plan.items 0 [] flaws are empty).0

archives_well : (os : List Opened) (s t : List ItemFlaw) → AreAdded AddsUnsearchable os s t → length t ≡ 0 → All IsSearchedWell os × (length s ≡ 0)
archives_well [] s t same empty = (All-nil IsSearchedWell, still s t same empty)
archives_well (o ∷ os) s t added empty =
    let rest = archives_well os added.0 t added.2 empty in
    elim added.1 as (λ _. All IsSearchedWell (o ∷ os) × (length s ≡ 0)) [
      | inl well ↦ (All-cons IsSearchedWell o os well.0 rest.0, still s added.0 well.1 rest.1)
      | inr (inl bad) ↦ absurd (longer s added.0 bad.1 bad.5 rest.1)
      | inr (inr bad) ↦ absurd (longer s added.0 bad.0 bad.3 rest.1)
    ]

pub none_unsearchable : (files : List File) (plan : Plan) (flaws : List ItemFlaw) → AreFilesThere files plan → AreUnsearchableItems files plan flaws → length flaws ≡ 0 → IsSearchable files plan
none_unsearchable files plan flaws there are empty =
    let well = (archives_well (opened files plan) [] flaws are empty).0 in
    record {
      files_are = there;
      archives = All-weaker IsSearchedWell _ (λ o w. w.archive) (opened files plan) well;
      indexes = All-weaker IsSearchedWell _ (λ o w. w.index) (opened files plan) well;
    }

-- what items add leaves at least the flaws that were
objects_grown : (stop : Option ℕ) (os : List Opened) (s t : List ItemFlaw) → AreAdded (AddsUnreadable stop) os s t → length t ≡ 0 → length s ≡ 0
objects_grown stop [] s t same empty = still s t same empty
objects_grown stop (o ∷ os) s t added empty =
    let rest = objects_grown stop os added.0 t added.2 empty in
    elim added.1 as (λ _. length s ≡ 0) [
      | inl archive ↦ still s added.0 archive.1 rest
      | inr (inl told) ↦ still s added.0 told.1 rest
      | inr (inr (inl good)) ↦ still s added.0 good.1 rest
      | inr (inr (inr bad)) ↦ absurd (longer s added.0 (flaw.Object bad.0 bad.1) bad.6 rest)
    ]

pub none_bad : (files : List File) (plan : Plan) (flaws : List ItemFlaw) → AreBadObjects files plan flaws → length flaws ≡ 0 → IsLoadable files plan
none_bad files plan flaws are empty =
    let first = objects_grown are.0 (opened files plan) are.1 flaws are.3 empty in
    elim are.2 as (λ _. IsLoadable files plan) [
      | inl none ↦ none.1
      | inr (inl bad) ↦ absurd (longer [] are.1 (flaw.Object bad.0 bad.1) bad.4 first)
      | inr (inr bad) ↦ absurd (longer [] are.1 (flaw.Groups bad.0 bad.1) bad.4 first)
    ]

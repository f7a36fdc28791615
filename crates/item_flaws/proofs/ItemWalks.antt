-- The items of a plan that are still to come.
use Rattle.std.proofs.Common.{◌≡◌, ℕ, ◌+◌, ◌<◌, ◌≤◌, List, [], ◌∷◌, ap, drop, get_or, length, map, subst, sym}
use Rattle.std.specs.Prelude.{All}
use Rattle.std.proofs.lemmas.List.{drop_all, drop_more, get_or-map, length-map}
use Rattle.command.specs.Views.{item_of}
use Rattle.command.specs.declared.items.Item as code
use Rattle.elf_model.specs.Inputs.Command.{Item, Plan}
use Rattle.elf_model.specs.Inputs.Files.{File}
use Rattle.elf_model.specs.Inputs.Opening.{Opened, opened, opened_from, opened_item}
use Rattle.flaws.specs.Flaws.{AreAdded}
use Rattle.item_flaws.specs.ItemFlaws.{AddsMissing, AreMissingItems, numbered}
use Rattle.item_flaws.specs.declared.flaw.ItemFlaw.{ItemFlaw}

module _ (items : List code.Item) (i : ℕ) (d : code.Item) (within : i < length items) where
  next_item : map item_of (drop i items) ≡ item_of (get_or items i d) ∷ map item_of (drop (i + 1) items)
  next_item = ap (map item_of) (drop_more items i d within)

  pub next_numbered : numbered i (map item_of (drop i items)) ≡ (i, item_of (get_or items i d)) ∷ numbered (i + 1) (map item_of (drop (i + 1) items))
  next_numbered = ap (numbered i) next_item

  pub next_opened :
      (files : List File) (directories : List (List ℕ)) →
      opened_from files directories i (map item_of (drop i items))
      ≡ opened_item files directories i (item_of (get_or items i d)) ∷ opened_from files directories (i + 1) (map item_of (drop (i + 1) items))
  next_opened files directories = ap (opened_from files directories i) next_item

  -- what holds of all items holds of each
  pub at_item : (P : Item → Type 0) → All P (map item_of items) → P (item_of (get_or items i d))
  at_item P all =
      subst P (get_or-map item_of items i d (item_of d) within) (all i (item_of d) (subst (λ (n : ℕ). i < n) (sym (length-map items item_of)) within))

-- none are left behind the last one, and what those of a plan add is what all add
pub none_left : (items : List code.Item) (i : ℕ) → length items ≤ i → map item_of (drop i items) ≡ []
none_left items i behind = ap (map item_of) (drop_all i items behind)

pub missing_of :
    (files fs : List File) (plan : Plan) (ds : List (List ℕ)) (is : List Item) (none flaws : List ItemFlaw) → fs ≡ files → ds ≡ plan.directories → is ≡ plan.items → none ≡ [] →
    AreAdded (AddsMissing fs ds) (numbered 0 is) none flaws → AreMissingItems files plan flaws
missing_of files fs plan ds is none flaws of_files of_directories of_items empty are =
    subst (λ (s : List ItemFlaw). AreAdded (AddsMissing files plan.directories) (numbered 0 plan.items) s flaws) empty
    (subst (λ (xs : List Item). AreAdded (AddsMissing files plan.directories) (numbered 0 xs) none flaws) of_items
    (subst (λ (xs : List (List ℕ)). AreAdded (AddsMissing files xs) (numbered 0 is) none flaws) of_directories
    (subst (λ (xs : List File). AreAdded (AddsMissing xs ds) (numbered 0 is) none flaws) of_files are)))

pub opened_of :
    (Of : Opened → List ItemFlaw → List ItemFlaw → Type 0) (files fs : List File) (plan : Plan) (ds : List (List ℕ)) (is : List Item) (before flaws : List ItemFlaw) → fs ≡ files →
    ds ≡ plan.directories → is ≡ plan.items → AreAdded Of (opened_from fs ds 0 is) before flaws → AreAdded Of (opened files plan) before flaws
opened_of Of files fs plan ds is before flaws of_files of_directories of_items are =
    subst (λ (xs : List Item). AreAdded Of (opened_from files plan.directories 0 xs) before flaws) of_items
    (subst (λ (xs : List (List ℕ)). AreAdded Of (opened_from files xs 0 is) before flaws) of_directories
    (subst (λ (xs : List File). AreAdded Of (opened_from xs ds 0 is) before flaws) of_files are))

-- Items as they are opened, and archives as they are read.
use Rattle.std.proofs.Common.{◌≡◌, ℕ, suc, ◌+◌, ◌<◌, List, [], ◌∷◌, ◌++◌, length, get_or, drop, drop-cons, map, take, Option, Some, None, inl, inr, refl, sym, ◌∙◌, ap, subst, arith, append_assoc}
use Rattle.std.specs.Prelude.{◌↔◌, All, Any, IsSome, IsTrue, codes, option_map, unwrap_or}
use Rattle.std.specs.Borrow.{Bor}
use Rattle.std.specs.List.{find}
use Rattle.std.proofs.lemmas.Bool.{false≢true}
use Rattle.std.proofs.lemmas.List.{get_or-map, length-map, map-append, take_more}
use Rattle.std.proofs.lemmas.List.Elements.{All-cons, All-head, All-push, All-tail}
use Rattle.std.proofs.lemmas.Option.{none-some, same_Some}
use Rattle.command.specs.Views.{item_of, source_of, texts_of}
use Rattle.command.specs.declared.items.Item.{Item}
use Rattle.elf_model.specs.Inputs.Command as command
use Rattle.elf_model.specs.Inputs.Command.{library_paths, paths_of}
use Rattle.elf_model.specs.Inputs.Files.{File}
use Rattle.elf_model.specs.Inputs.Opening.{HasFile, Opened, bytes_of, is_file, opened_from, opened_item}
use Rattle.ar_index.specs.FileBytes.{is_whole}
use Rattle.ar_index.specs.Parts.{PartialFile}
use Rattle.ar_index.specs.declared.file_bytes.FileBytes.{FileBytes}
use Rattle.opening.specs.Held.{IsApart, IsSearchedOrWhole, is_part_named}
use Rattle.opening.specs.Opened.{HasWholeObject, file_at, first_found, item_view}
use Rattle.opening.specs.Faults.{AreUnsearchable, IsUnsearchable}
use Rattle.opening.specs.declared.faults.OpenFault.{OpenFault}
use Rattle.opening.specs.declared.faults.OpenFault.TheVariants as error
use Rattle.opening.specs.declared.opened_items.OpenedItem.{OpenedItem}

-- a path without a file
pub none_found : (files : List File) (paths : List (List ℕ)) → None ≡ first_found files paths → IsSome (find (is_file files) paths) → ⊥
none_found files paths none some = by (find (is_file files) paths) none some
  where
    by : (found : Option (List ℕ)) → None ≡ option_map (file_at files) found → IsSome found → ⊥
    by None none some = false≢true some
    by (Some p) none some = none-some (file_at files p) none

-- an item whose file was found
pub opened_is : (files : List File) (directories : List (List ℕ)) (i : ℕ) (item : command.Item) (f : File) → Some f ≡ first_found files (paths_of directories item.source) →
    (opened_item files directories i item ≡ record { number = i; path = f.name; bytes = f.bytes; archive = item.archive; whole = item.whole; group = item.group }) × HasFile files directories item
opened_is files directories i item f found = by (find (is_file files) (paths_of directories item.source)) refl found
  where
    made : List ℕ → List ℕ → Opened
    made path bytes = record { number = i; path = path; bytes = bytes; archive = item.archive; whole = item.whole; group = item.group }

    by : (path : Option (List ℕ)) → find (is_file files) (paths_of directories item.source) ≡ path → Some f ≡ option_map (file_at files) path →
        (opened_item files directories i item ≡ record { number = i; path = f.name; bytes = f.bytes; archive = item.archive; whole = item.whole; group = item.group }) × HasFile files directories item
    by None is found = absurd (none-some f (sym found))
    by (Some p) is found =
        let same : f ≡ file_at files p = same_Some f (file_at files p) found in
        (ap (λ (o : Option (List ℕ)). made (unwrap_or o []) (bytes_of files o)) is ∙ ap (λ (g : File). made g.name g.bytes) (sym same), subst IsSome (sym is) refl)

module _ (files : List File) (directories : List (List ℕ)) (items : List Item) (i : ℕ) (d : Item) (within : i < length items) where
  pub items_front : map item_of (drop i items) ≡ item_of (get_or items i d) ∷ map item_of (drop (i + 1) items)
  items_front = let e : i + 1 ≡ suc i = omega arith in rw e (ap (map item_of) (drop-cons items i d within))

  -- an item that has no file
  pub missing : None ≡ first_found files (paths_of directories (source_of (get_or items i d).source)) →
      (All (HasFile files directories) (map item_of items) ↔ All (HasFile files directories) (map item_of (drop i items))) → All (HasFile files directories) (map item_of items) → ⊥
  missing none told all =
      none_found files (paths_of directories (source_of (get_or items i d).source)) none
      (All-head (HasFile files directories) (item_of (get_or items i d)) (map item_of (drop (i + 1) items))
      (subst (All (HasFile files directories)) items_front (told.0 all)))

  -- an item that has one
  pub files_step : HasFile files directories (item_of (get_or items i d)) →
      (All (HasFile files directories) (map item_of items) ↔ All (HasFile files directories) (map item_of (drop i items))) →
      All (HasFile files directories) (map item_of items) ↔ All (HasFile files directories) (map item_of (drop (i + 1) items))
  files_step here told = (
    λ all. All-tail (HasFile files directories) (item_of (get_or items i d)) (map item_of (drop (i + 1) items)) (subst (All (HasFile files directories)) items_front (told.0 all)),
    λ rest. told.1 (subst (All (HasFile files directories)) (sym items_front) (All-cons (HasFile files directories) (item_of (get_or items i d)) (map item_of (drop (i + 1) items)) here rest)),
  )

  pub items_step : (old new : List OpenedItem) (x : OpenedItem) (whole : List Opened) → new ≡ old ++ x ∷ [] →
      item_view x ≡ opened_item files directories i (item_of (get_or items i d)) →
      map item_view old ++ opened_from files directories i (map item_of (drop i items)) ≡ whole →
      map item_view new ++ opened_from files directories (i + 1) (map item_of (drop (i + 1) items)) ≡ whole
  items_step old new x whole is one rest =
      ap (λ (l : List OpenedItem). map item_view l ++ later) is
      ∙ (ap (λ (l : List Opened). l ++ later) (map-append item_view old (x ∷ []))
      ∙ (append_assoc (map item_view old) (item_view x ∷ []) later
      ∙ (ap (λ (o : Opened). map item_view old ++ o ∷ later) one
      ∙ (sym (ap (λ (l : List command.Item). map item_view old ++ opened_from files directories i l) items_front) ∙ rest))))
    where
      later : List Opened
      later = opened_from files directories (i + 1) (map item_of (drop (i + 1) items))

-- no file that was read in part is at the path of a library
pub apart_at :
    (parts : List PartialFile) (directories : List (Bor (List ℕ))) (name : List ℕ) (i : ℕ) (d : Bor (List ℕ)) → i < length directories →
    IsApart parts (library_paths (texts_of directories) name) →
    find (is_part_named ((get_or directories i d).now ++ (codes "/lib" ++ (name ++ codes ".a")))) parts ≡ None
apart_at parts directories name i d within apart =
    let path = λ (t : List ℕ). t ++ (codes "/lib" ++ (name ++ codes ".a")) in
    let inside : i < length (texts_of directories) = subst (λ (n : ℕ). i < n) (sym (length-map directories (λ t. t.now))) within in
    subst (λ (p : List ℕ). find (is_part_named p) parts ≡ None)
    (get_or-map path (texts_of directories) i d.now (path d.now) inside ∙ ap path (get_or-map (λ (t : Bor (List ℕ)). t.now) directories i d d.now within))
    (apart i (path d.now) (subst (λ (n : ℕ). i < n) (sym (length-map (texts_of directories) path)) inside))

-- an item that is no archive has a file that was read whole
pub objects_step :
    (parts : List PartialFile) (directories : List (List ℕ)) (items : List Item) (i : ℕ) (d : Item) → i < length items →
    (old new : List OpenedItem) (x : OpenedItem) (bytes : FileBytes) → new ≡ old ++ x ∷ [] → x.bytes ≡ bytes → x.archive ≡ (get_or items i d).archive →
    All (IsSearchedOrWhole parts directories) (map item_of items) → All HasWholeObject old →
    (IsApart parts (paths_of directories (source_of (get_or items i d).source)) → IsTrue (is_whole bytes)) → All HasWholeObject new
objects_step parts directories items i d within old new x bytes now held archive searched all whole =
    subst (All HasWholeObject) (sym now) (All-push HasWholeObject old x all here)
  where
    own : IsSearchedOrWhole parts directories (item_of (get_or items i d))
    own = subst (IsSearchedOrWhole parts directories) (get_or-map item_of items i d (item_of d) within) (searched i (item_of d) (subst (λ (n : ℕ). i < n) (sym (length-map items item_of)) within))

    here : HasWholeObject x
    here object = subst (λ (b : FileBytes). IsTrue (is_whole b)) (sym held) (by own)
      where
        by : IsSearchedOrWhole parts directories (item_of (get_or items i d)) → IsTrue (is_whole bytes)
        by (inl is) = absurd (false≢true (sym object ∙ archive ∙ is.0))
        by (inr apart) = whole apart

-- the first items, and one more
pub searched_more :
    (parts : List PartialFile) (directories : List (List ℕ)) (items : List Item) (i : ℕ) (d : Item) → i < length items →
    All (IsSearchedOrWhole parts directories) (map item_of (take i items)) → IsSearchedOrWhole parts directories (item_of (get_or items i d)) →
    All (IsSearchedOrWhole parts directories) (map item_of (take (i + 1) items))
searched_more parts directories items i d within all here =
    let P = IsSearchedOrWhole parts directories in
    subst (λ (is : List Item). All P (map item_of is)) (sym (take_more items i d within))
    (subst (All P) (sym (map-append item_of (take i items) (get_or items i d ∷ []))) (All-push P (map item_of (take i items)) (item_of (get_or items i d)) all here))

-- Archives that can't be searched.
among : (items : List OpenedItem) (i : ℕ) (d : OpenedItem) (P : Opened → Type 0) → i < length items → P (item_view (get_or items i d)) → Any P (map item_view items)
among items i d P within p =
    (i, item_view (get_or items i d), subst (λ (n : ℕ). i < n) (sym (length-map items item_view)) within, get_or-map item_view items i d (item_view (get_or items i d)) within, p)

pub unsearchable_at : (items : List OpenedItem) (i : ℕ) (d : OpenedItem) (e : OpenFault) → i < length items → IsUnsearchable e (item_view (get_or items i d)) →
    AreUnsearchable (map item_view items) e
unsearchable_at items i d error.Memory within s = tt
unsearchable_at items i d (error.BadArchive f) within s = among items i d (IsUnsearchable (error.BadArchive f)) within s
unsearchable_at items i d error.NoIndex within s = among items i d (IsUnsearchable error.NoIndex) within s
unsearchable_at items i d error.FileMissing within s = absurd s

pub inputs_step : (items : List OpenedItem) (i : ℕ) (d : OpenedItem) (old new : List Opened) (x : Opened) → i < length items → new ≡ old ++ x ∷ [] →
    x ≡ item_view (get_or items i d) → old ++ map item_view (drop i items) ≡ map item_view items → new ++ map item_view (drop (i + 1) items) ≡ map item_view items
inputs_step items i d old new x within is one rest =
    let e : i + 1 ≡ suc i = omega arith in
    rw e
    (ap (λ (l : List Opened). l ++ map item_view (drop (suc i) items)) is
    ∙ (append_assoc old (x ∷ []) (map item_view (drop (suc i) items))
    ∙ (ap (λ (o : Opened). old ++ o ∷ map item_view (drop (suc i) items)) one
    ∙ (sym (ap (λ (l : List OpenedItem). old ++ map item_view l) (drop-cons items i d within)) ∙ rest))))

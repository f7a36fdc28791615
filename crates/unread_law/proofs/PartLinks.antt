-- A right link of files of which some were read in part is one of the files.
use Rattle.std.proofs.Common.{◌≡◌, ◌⊎◌, inl, inr, ℕ, ◌+◌, Bool, true, false, cond, List, [], ◌∷◌, ◌++◌, Option, None, Some, get_or, map, refl, sym, ◌∙◌, ap, subst}
use Rattle.std.specs.Prelude.{All, Ok, find, unwrap_or}
use Rattle.std.specs.List.{AllZip}
use Rattle.std.proofs.lemmas.Option.{same_Some}
use Rattle.std.proofs.lemmas.List.Elements.{All-head, All-tail, All-weaker}
use Rattle.elf_model.proofs.Found.{find-agree}
use Rattle.elf_model.specs.Inputs.Command.{Item, Plan, command_of, paths_of}
use Rattle.elf_model.specs.Inputs.Files.{File}
use Rattle.elf_model.specs.Inputs.ObjectFile.{IsObject}
use Rattle.elf_model.specs.Inputs.Opening.{Opened, archive_data, bytes_of, file_named, is_file, opened, opened_from, opened_item, path_of}
use Rattle.elf_model.specs.Image.RightLink.{IsRightLink}
use Rattle.elf_model.specs.Link.Loading.{AreObjects, LoadedObject, loaded_objects}
use Rattle.elf_model.specs.declared.verdict.Clause.TheVariants.{C2}
use Rattle.ar_index.specs.Parts.{AreReadOf, Part, PartialFile, file_of_parts, part_bytes}
use Rattle.opening.specs.Held.{AreSearched, HeldFiles, IsApart, IsSearchedOrWhole, all_files, is_part_named}
use Rattle.unread_law.specs.PartFiles.{AreFilesOf, IsFileOf}
use Rattle.unread_law.specs.Unread.{Agree, AgreeOutside, AgreesOn, AreAlike, HasSameData, IsSameBut}
use Rattle.unread_law.proofs.Files.{file_same}
use Rattle.unread_law.proofs.PartArchives.{agree, same_data}
use Rattle.unread_law.proofs.PartFound.{AreBytesOf, FoundAlike, found_alike, found_same, names_same}
use Rattle.unread_law.proofs.RightLinks.{right_links_too, same_plan}

-- what a test finds is among what is tested
find_among : (test : List ℕ → Bool) (paths : List (List ℕ)) (path : List ℕ) (P : List ℕ → Type 0) → find test paths ≡ Some path → All P paths → P path
find_among test [] path P found all = absurd cc
find_among test (x ∷ xs) path P found all = by (test x) refl (λ later. find_among test xs path P later (All-tail P x xs all))
  where
    by : (b : Bool) → test x ≡ b → (find test xs ≡ Some path → P path) → P path
    by true is rest =
        let same : Some x ≡ Some path = sym (ap (λ (c : Bool). cond c (Some x) (find test xs)) is) ∙ found in
        let e : x ≡ path = same_Some x path same in
        subst P e (All-head P x xs all)
    by false is rest = rest (sym (ap (λ (c : Bool). cond c (Some x) (find test xs)) is) ∙ found)

module _ (h : HeldFiles) (read : List File) (each : AllZip IsFileOf h.parts read) where
  abbrev files : List File
  files = read ++ h.wholes

  names : map (λ f. f.name) (all_files h) ≡ map (λ f. f.name) files
  names = names_same h.wholes h.parts read each

  path_same : (directories : List (List ℕ)) (item : Item) → path_of (all_files h) directories item ≡ path_of files directories item
  path_same directories item =
      find-agree (is_file (all_files h)) (is_file files) (paths_of directories item.source) (λ k d within. file_same (all_files h) files names _)

  -- the bytes at a path that was found
  bytes_alike : (path : Option (List ℕ)) → AreBytesOf (bytes_of (all_files h) path) (bytes_of files path)
  bytes_alike None = inl refl
  bytes_alike (Some path) = by (file_named (all_files h) path) (file_named files path) (found_alike h.wholes path h.parts read each)
    where
      by : (a b : Option (List ℕ)) → FoundAlike a b → AreBytesOf (unwrap_or a []) (unwrap_or b [])
      by None None alike = inl refl
      by None (Some b) alike = absurd alike
      by (Some a) None alike = absurd alike
      by (Some a) (Some b) alike = alike

  bytes_same : (directories : List (List ℕ)) (item : Item) → IsApart h.parts (paths_of directories item.source)
      → (path : Option (List ℕ)) → path_of (all_files h) directories item ≡ path → bytes_of (all_files h) path ≡ bytes_of files path
  bytes_same directories item apart None is = refl
  bytes_same directories item apart (Some path) is =
      let none = find_among (is_file (all_files h)) (paths_of directories item.source) path (λ p. find (is_part_named p) h.parts ≡ None) is apart in
      ap (λ (o : Option (List ℕ)). unwrap_or o []) (found_same h.wholes path h.parts read each none)

  module _ (directories : List (List ℕ)) (i : ℕ) (item : Item) where
    abbrev one : Opened
    one = opened_item (all_files h) directories i item

    abbrev other : Opened
    other = opened_item files directories i item

    other_bytes : bytes_of files (path_of (all_files h) directories item) ≡ other.bytes
    other_bytes = ap (bytes_of files) (path_same directories item)

    alike : (one.bytes ≡ other.bytes) ⊎ IsSameBut one other → AreAlike one other
    alike bytes = record {
      number = refl;
      path = ap (λ (o : Option (List ℕ)). unwrap_or o []) (path_same directories item);
      archive = refl;
      whole = refl;
      group = refl;
      bytes = bytes;
    }

    same_agrees : (objects : List LoadedObject) → one.bytes ≡ other.bytes → AgreesOn objects one other
    same_agrees objects same = (alike (inl same), λ k d within number bytes. ap (λ (bs : List ℕ). archive_data bs (get_or objects k d).offset) same)

    agrees : (objects : List LoadedObject) → AreObjects objects → IsSearchedOrWhole h.parts directories item → AgreesOn objects one other
    agrees objects are (inr apart) =
        same_agrees objects (bytes_same directories item apart (path_of (all_files h) directories item) refl ∙ other_bytes)
    agrees objects are (inl searched) = by (bytes_alike (path_of (all_files h) directories item))
      where
        by : AreBytesOf one.bytes (bytes_of files (path_of (all_files h) directories item)) → AgreesOn objects one other
        by (inl same) = same_agrees objects (same ∙ other_bytes)
        by (inr r) =
            let qs = r.2.members in
            let bytes : other.bytes ≡ part_bytes qs = sym other_bytes ∙ r.2.spelled in (
              alike (inr (record {
                searched = searched.0;
                not_whole = searched.1;
                agree = subst (λ (bs : List ℕ). AgreeOutside bs other.bytes) (sym r.1) (subst (AgreeOutside (part_bytes r.0)) (sym bytes) (agree r.0 qs r.2.each));
              })),
              All-weaker (λ x. IsObject x.bytes) (HasSameData one other)
                  (λ x is number held.
                  let own = ap (λ (bs : List ℕ). archive_data bs x.offset) r.1 in
                  own
                  ∙ same_data r.0 qs x.offset r.2.each (subst IsObject (held ∙ own) is)
                  ∙ ap (λ (bs : List ℕ). archive_data bs x.offset) (sym bytes))
                  objects are,
            )

  items_agree : (objects : List LoadedObject) → AreObjects objects → (directories : List (List ℕ)) (i : ℕ) (items : List Item)
      → All (IsSearchedOrWhole h.parts directories) items
      → AllZip (AgreesOn objects) (opened_from (all_files h) directories i items) (opened_from files directories i items)
  items_agree objects are directories i [] all = tt
  items_agree objects are directories i (item ∷ items) all = (
    agrees directories i item objects are (All-head (IsSearchedOrWhole h.parts directories) item items all),
    items_agree objects are directories (i + 1) items (All-tail (IsSearchedOrWhole h.parts directories) item items all),
  )

  files_agree : (plan : Plan) → AreSearched h.parts plan → AreObjects (loaded_objects (all_files h) plan) → Agree (all_files h) files plan
  files_agree plan searched are = record {
    names = names;
    items = items_agree (loaded_objects (all_files h) plan) are plan.directories 0 plan.items searched;
  }

pub right_of_all :
    (h : HeldFiles) (files : List File) (words : List (List ℕ)) (image map_text : List ℕ) (plan : Plan)
    → command_of words ≡ Ok plan → AreSearched h.parts plan → AreFilesOf h files
    → IsRightLink (all_files h) words image map_text → IsRightLink files words image map_text
right_of_all h others words image map_text plan command searched of right =
    let own : right.plan ≡ plan = same_plan words right.plan plan right.read.plan command in
    let are = subst (λ (p : Plan). AreObjects (loaded_objects (all_files h) p)) own (right.holds C2).objects in
    subst (λ (fs : List File). IsRightLink fs words image map_text) (sym of.all)
    (right_links_too (all_files h) (of.whole ++ h.wholes) words image map_text plan command
    (files_agree h of.whole of.each plan searched are) right)

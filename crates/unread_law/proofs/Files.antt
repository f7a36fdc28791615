-- Files that agree where loading looks give the same objects, and can be loaded alike.
use Rattle.std.proofs.Common.{◌≡◌, ◌⊎◌, inl, inr, ℕ, Bool, true, false, cond, List, [], ◌∷◌, map, refl, sym, ◌∙◌, ap, subst}
use Rattle.std.specs.Prelude.{Option, Some, is_some, not, option_map, ◌&&◌, ◌||◌}
use Rattle.std.specs.List.{AllZip, find, list_any}
use Rattle.std.specs.Str.{bytes_eq}
use Rattle.std.proofs.lemmas.List.Elements.{All-cons, All-head, All-tail, All-weaker}
use Rattle.elf_model.proofs.Found.{find-agree}
use Rattle.elf_model.proofs.LoadingLaws.{follows_rules}
use Rattle.elf_model.specs.Inputs.ArchiveFile.{IsArchive}
use Rattle.elf_model.specs.Inputs.Command.{Item, Plan, paths_of}
use Rattle.elf_model.specs.Inputs.Files.{File}
use Rattle.elf_model.specs.Inputs.Opening.{AreArchives, HasFile, HaveIndexes, Opened, is_file, is_unindexed, lacks_index, opened}
use Rattle.elf_model.specs.Link.Loading.{LoadedObject, loaded_objects}
use Rattle.unread_law.specs.Unread.{Agree, AgreesOn, AreAlike, IsSameBut, LoadsTheSame}
use Rattle.unread_law.proofs.Archives.{archive_same, unindexed_same}
use Rattle.unread_law.proofs.Loading.{loads_on}

-- Names of files.
named : (files : List File) (path : List ℕ) → is_file files path ≡ list_any (λ n. bytes_eq n path) (map (λ f. f.name) files)
named [] path = refl
named (f ∷ files) path = by (bytes_eq f.name path) refl (named files path)
  where
    by : (b : Bool) → bytes_eq f.name path ≡ b → is_file files path ≡ list_any (λ n. bytes_eq n path) (map (λ g. g.name) files)
        → is_file (f ∷ files) path ≡ list_any (λ n. bytes_eq n path) (map (λ g. g.name) (f ∷ files))
    by true is rest =
        ap (λ (c : Bool). is_some (option_map (λ g. g.bytes) (cond c (Some f) (find (λ g. bytes_eq g.name path) files)))) is
        ∙ ap (λ (c : Bool). c || list_any (λ n. bytes_eq n path) (map (λ g. g.name) files)) (sym is)
    by false is rest =
        ap (λ (c : Bool). is_some (option_map (λ g. g.bytes) (cond c (Some f) (find (λ g. bytes_eq g.name path) files)))) is
        ∙ rest
        ∙ ap (λ (c : Bool). c || list_any (λ n. bytes_eq n path) (map (λ g. g.name) files)) (sym is)

pub file_same : (files others : List File) → map (λ f. f.name) files ≡ map (λ f. f.name) others → (path : List ℕ) → is_file files path ≡ is_file others path
file_same files others names path = named files path ∙ ap (λ ns. list_any (λ n. bytes_eq n path) ns) names ∙ sym (named others path)

has_file : (files others : List File) (directories : List (List ℕ)) (item : Item) → map (λ f. f.name) files ≡ map (λ f. f.name) others → HasFile files directories item → HasFile others directories item
has_file files others directories item names has =
    subst (λ (o : Option (List ℕ)). is_some o ≡ true)
    (find-agree (is_file files) (is_file others) (paths_of directories item.source) (λ k d within. file_same files others names _)) has

-- Archives among the items.
archive_on : (o q : Opened) → AreAlike o q → (o.archive ≡ true → IsArchive o.bytes) → q.archive ≡ true → IsArchive q.bytes
archive_on o q alike is archive = by alike.bytes
  where
    by : (o.bytes ≡ q.bytes) ⊎ IsSameBut o q → IsArchive q.bytes
    by (inl content) = subst IsArchive content (is (alike.archive ∙ archive))
    by (inr but) = archive_same o.bytes q.bytes but.agree (is (alike.archive ∙ archive))

lacks_same : (o q : Opened) → AreAlike o q → lacks_index o ≡ lacks_index q
lacks_same o q alike = by alike.bytes
  where
    by : (o.bytes ≡ q.bytes) ⊎ IsSameBut o q → lacks_index o ≡ lacks_index q
    by (inl content) = (λ i. not (alike.whole i) && is_unindexed (content i))
    by (inr but) = (λ i. not (alike.whole i) && unindexed_same o.bytes q.bytes but.agree i)

module _ (objects : List LoadedObject) where
  archives_on : (os qs : List Opened) → AllZip (AgreesOn objects) os qs → AreArchives os → AreArchives qs
  archives_on [] [] zip all = all
  archives_on [] (q ∷ qs) zip all = absurd zip
  archives_on (o ∷ os) [] zip all = absurd zip
  archives_on (o ∷ os) (q ∷ qs) zip all =
      let P = λ (x : Opened). x.archive ≡ true → IsArchive x.bytes in
      All-cons P q qs (archive_on o q zip.0.0 (All-head P o os all)) (archives_on os qs zip.1 (All-tail P o os all))

  indexes_on : (os qs : List Opened) → AllZip (AgreesOn objects) os qs → HaveIndexes os → HaveIndexes qs
  indexes_on [] [] zip all = all
  indexes_on [] (q ∷ qs) zip all = absurd zip
  indexes_on (o ∷ os) [] zip all = absurd zip
  indexes_on (o ∷ os) (q ∷ qs) zip all =
      let P = λ (x : Opened). x.archive ≡ true → lacks_index x ≡ false in
      All-cons P q qs (λ archive. sym (lacks_same o q zip.0.0) ∙ All-head P o os all (zip.0.0.archive ∙ archive)) (indexes_on os qs zip.1 (All-tail P o os all))

pub loads_the_same : (files others : List File) (plan : Plan) → Agree files others plan → LoadsTheSame files others plan
loads_the_same files others plan agree = record {
  objects =
      sym ((follows_rules others plan).only (loaded_objects files plan)
      (loads_on plan (loaded_objects files plan) (opened files plan) (opened others plan) agree.items (follows_rules files plan).loads));
  there = All-weaker (HasFile files plan.directories) (HasFile others plan.directories) (λ item has. has_file files others plan.directories item agree.names has) plan.items;
  archives = archives_on (loaded_objects files plan) (opened files plan) (opened others plan) agree.items;
  indexes = indexes_on (loaded_objects files plan) (opened files plan) (opened others plan) agree.items;
}

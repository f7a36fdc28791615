-- What the rules load is what the lines of its objects name, in their order.
use Rattle.std.proofs.Common.{◌∙◌, ap, arith, refl, subst, sym}
use Rattle.std.specs.Prelude.{◌≡◌, ◌+◌, ◌==◌, ℕ, zero, suc, Bool, true, false, List, [], ◌∷◌, ◌++◌, Option, None, Some, All, Contains, cond, filter, find, is_some, length, option_map, unwrap_or}
use Rattle.std.specs.List.{slice_get}
use Rattle.std.specs.Option.{option_map_or}
use Rattle.std.proofs.lemmas.Bool.{eqb-true, eq-eqb, false≢true}
use Rattle.std.proofs.lemmas.List.Elements.{All-cons, All-contains, All-head, All-nil, All-tail}
use Rattle.elf_model.proofs.Finding.{find-found, none-passes}
use Rattle.elf_model.proofs.Listed.{Contains-here, Contains-there, Contains-from_filter, Contains-from_map}
use Rattle.elf_model.specs.Image.MapRecord.{ObjectRow}
use Rattle.elf_model.specs.Image.RightLink.{object_rows}
use Rattle.elf_model.specs.Inputs.ArchiveFile.{IndexEntry, Member, header_offsets, is_ordinary, is_readable, member_of, members, size_at, stored_member, stored_members}
use Rattle.elf_model.specs.Inputs.Command.{Item, Plan}
use Rattle.elf_model.specs.Inputs.Files.{File}
use Rattle.elf_model.specs.Inputs.Opening.{Opened, archive_data, archive_members, opened, opened_from, opened_item}
use Rattle.elf_model.specs.Link.Loading.{Group, LoadedObject, Single, Step, before_steps, group_of, is_begun, joined, loaded_objects, loaded_step, loaded_steps, most_rounds, next, object_behind, round, rounds_within, searched, steps, turn, turn_of_whole, with_member, with_members, with_object}
use Rattle.byteview.specs.Numbers.{part}
use Rattle.judge_model.specs.Loaded.{objects_behind, objects_in_order, row_bytes, with_row}

-- The data of a member is told by its header's offset.
abbrev data_at : List ℕ → ℕ → List ℕ
data_at bytes at = part bytes (at + 60) (size_at bytes at)

member_data : (bytes : List ℕ) (m : Member) → Contains (members bytes) m → m.bytes ≡ data_at bytes m.offset
member_data bytes m c =
    let x = Contains-from_map member_of (filter is_ordinary (stored_members bytes)) m c in
    let y = Contains-from_map (stored_member bytes) (filter (is_readable bytes) (header_offsets bytes)) x.of (Contains-from_filter is_ordinary (stored_members bytes) x.of x.there).0 in
    let e : member_of (stored_member bytes y.of) ≡ m = ap member_of y.is ∙ x.is in
    subst (λ (m : Member). m.bytes ≡ data_at bytes m.offset) e refl

whole_data : (bytes : List ℕ) (m : Member) → Contains (archive_members bytes) m → archive_data bytes m.offset ≡ m.bytes
unfolding archive_data archive_members
whole_data bytes m c = by (find (λ x. x.offset == m.offset) (members bytes)) refl
  where
    by : (o : Option Member) → find (λ x. x.offset == m.offset) (members bytes) ≡ o → unwrap_or (option_map (λ x. x.bytes) o) [] ≡ m.bytes
    by None e =
        absurd
        (false≢true
        (sym (All-contains (λ (x : Member). (x.offset == m.offset) ≡ false) (members bytes) m (none-passes (λ x. x.offset == m.offset) (members bytes) e) c)
        ∙ eq-eqb m.offset m.offset refl))
    by (Some x) e =
        let f = find-found (λ (x : Member). x.offset == m.offset) (members bytes) x e in
        member_data bytes x f.there ∙ ap (data_at bytes) (eqb-true x.offset m.offset f.passes) ∙ sym (member_data bytes m c)

-- One object more.
rows_more : (k : ℕ) (xs : List LoadedObject) (x : LoadedObject) → object_rows k (xs ++ x ∷ []) ≡ object_rows k xs ++ object_rows (k + length xs) (x ∷ [])
rows_more k [] x = let e : k ≡ k + 0 = omega arith in ap (λ n. object_rows n (x ∷ [])) e
rows_more k (o ∷ os) x =
    let e : (k + 1) + length os ≡ k + suc (length os) = omega arith in
    ap (λ (rs : List ObjectRow). record { object = k; item = o.item; offset = o.offset; path = o.path } ∷ rs)
    (rows_more (k + 1) os x ∙ ap (λ n. object_rows (k + 1) os ++ object_rows n (x ∷ [])) e)

behind_more : (os : List Opened) (xs : List LoadedObject) (rows : List ObjectRow) (row : ObjectRow) → objects_behind os xs (rows ++ row ∷ []) ≡ with_row os (objects_behind os xs rows) row
behind_more os xs [] row = refl
behind_more os xs (r ∷ rows) row = behind_more os (with_row os xs r) rows row

module _ (os : List Opened) where
  -- an item is at its number; objects are those of their lines
  abbrev IsAt : Opened → Type 0
  IsAt o = slice_get os o.number ≡ Some o

  Built : List LoadedObject → Type 0
  Built xs = objects_behind os [] (object_rows 0 xs) ≡ xs

  either : (b : Bool) (xs ys : List LoadedObject) → Built xs → Built ys → Built (cond b xs ys)
  either true xs ys first second = first
  either false xs ys first second = second

  built_with :
      (xs : List LoadedObject) (o : Opened) (offset : ℕ) (bytes : List ℕ) → IsAt o → bytes ≡ cond o.archive (archive_data o.bytes offset) o.bytes
      → Built xs → Built (with_object xs o offset bytes)
  unfolding Built
  built_with xs o offset bytes at is built =
      let row : ObjectRow = record { object = 0 + length xs; item = o.number; offset = offset; path = o.path } in
      ap (objects_behind os []) (rows_more 0 xs (object_behind xs o offset bytes))
      ∙ behind_more os [] (object_rows 0 xs) row
      ∙ ap (λ (ys : List LoadedObject). with_row os ys row) built
      ∙ ap (λ (p : Option Opened). option_map_or (λ o. with_object xs o offset (row_bytes o row)) p xs) at
      ∙ ap (with_object xs o offset) (sym is)

  built_member : (xs : List LoadedObject) (o : Opened) (e : IndexEntry) → IsAt o → o.archive ≡ true → Built xs → Built (with_member xs o e)
  built_member xs o e at archive built =
      built_with xs o e.offset (archive_data o.bytes e.offset) at (ap (λ b. cond b (archive_data o.bytes e.offset) o.bytes) (sym archive)) built

  built_searched : (n : ℕ) (plan : Plan) (o : Opened) (xs : List LoadedObject) → IsAt o → o.archive ≡ true → Built xs → Built (searched n plan o xs)
  built_searched zero plan o xs at archive built = built
  built_searched (suc n) plan o xs at archive built =
      by (next plan xs o) (λ e. built_searched n plan o (with_member xs o e) at archive (built_member xs o e at archive built))
    where
      by : (found : Option IndexEntry) → ((e : IndexEntry) → Built (searched n plan o (with_member xs o e))) →
          Built (elim found as (λ _. List LoadedObject) [ None ↦ xs | Some e ↦ searched n plan o (with_member xs o e) ])
      by None more = built
      by (Some e) more = more e

  built_members :
      (xs : List LoadedObject) (o : Opened) (ms : List Member) → IsAt o → o.archive ≡ true
      → ((m : Member) → Contains ms m → archive_data o.bytes m.offset ≡ m.bytes) → Built xs → Built (with_members xs o ms)
  built_members xs o [] at archive data_is built = built
  built_members xs o (m ∷ ms) at archive data_is built =
      built_members (with_object xs o m.offset m.bytes) o ms at archive (λ x c. data_is x (Contains-there m ms x c))
      (built_with xs o m.offset m.bytes at
      (sym (data_is m (Contains-here ms m)) ∙ ap (λ b. cond b (archive_data o.bytes m.offset) o.bytes) (sym archive)) built)

  built_turn : (plan : Plan) (o : Opened) (xs : List LoadedObject) → IsAt o → o.archive ≡ true → Built xs → Built (turn plan o xs)
  built_turn plan o xs at archive built =
      either o.whole (turn_of_whole o xs) (searched _ plan o xs)
      (either (is_begun xs o.number) xs (with_members xs o (archive_members o.bytes)) built
      (built_members xs o (archive_members o.bytes) at archive (whole_data o.bytes) built))
      (built_searched _ plan o xs at archive built)

  -- the archives of a group
  abbrev IsArchiveAt : Opened → Type 0
  IsArchiveAt o = IsAt o × (o.archive ≡ true)

  built_round : (plan : Plan) (inputs : List Opened) (xs : List LoadedObject) → All IsArchiveAt inputs → Built xs → Built (round plan inputs xs)
  built_round plan [] xs all built = built
  built_round plan (o ∷ inputs) xs all built =
      let here = All-head IsArchiveAt o inputs all in
      built_round plan inputs (turn plan o xs) (All-tail IsArchiveAt o inputs all) (built_turn plan o xs here.0 here.1 built)

  built_rounds : (n : ℕ) (plan : Plan) (inputs : List Opened) (xs : List LoadedObject) → All IsArchiveAt inputs → Built xs → Built (rounds_within n plan inputs xs)
  built_rounds zero plan inputs xs all built = built
  built_rounds (suc n) plan inputs xs all built =
      either _ xs (rounds_within n plan inputs (round plan inputs xs)) built
      (built_rounds n plan inputs (round plan inputs xs) all (built_round plan inputs xs all built))

  -- the steps of items
  abbrev IsOfItems : Step → Type 0
  IsOfItems (Single o) = IsAt o
  IsOfItems (Group g inputs) = All IsArchiveAt inputs

  built_step : (plan : Plan) (s : Step) (xs : List LoadedObject) → IsOfItems s → Built xs → Built (loaded_step plan s xs)
  built_step plan (Single o) xs at built = by o.archive refl
    where
      by : (b : Bool) → o.archive ≡ b → Built (cond b (turn plan o xs) (with_object xs o 0 o.bytes))
      by true e = built_turn plan o xs at e built
      by false e = built_with xs o 0 o.bytes at (ap (λ b. cond b (archive_data o.bytes 0) o.bytes) (sym e)) built
  built_step plan (Group g inputs) xs all built = built_rounds (most_rounds inputs) plan inputs xs all built

  built_steps : (plan : Plan) (ss : List Step) (xs : List LoadedObject) → All IsOfItems ss → Built xs → Built (loaded_steps plan ss xs)
  built_steps plan [] xs all built = built
  built_steps plan (s ∷ ss) xs all built =
      built_steps plan ss (loaded_step plan s xs) (All-tail IsOfItems s ss all) (built_step plan s xs (All-head IsOfItems s ss all) built)

  archive_of_group : (o : Opened) (g : ℕ) → group_of o ≡ Some g → o.archive ≡ true
  archive_of_group o g e = by o.archive refl
    where
      by : (b : Bool) → o.archive ≡ b → o.archive ≡ true
      by true a = a
      by false a = absurd (false≢true (ap is_some (ap (λ b. cond b o.group None) (sym a) ∙ e)))

  joined_items : (o : Opened) (g : ℕ) (ss : List Step) → IsArchiveAt o → All IsOfItems ss → All IsOfItems (joined o g ss)
  joined_items o g [] here all = All-cons IsOfItems (Group g (o ∷ [])) [] (All-cons IsArchiveAt o [] here (All-nil IsArchiveAt)) all
  joined_items o g (Single p ∷ ss) here all =
      All-cons IsOfItems (Group g (o ∷ [])) (Single p ∷ ss) (All-cons IsArchiveAt o [] here (All-nil IsArchiveAt)) all
  joined_items o g (Group h inputs ∷ ss) here all = by (g == h)
    where
      by : (b : Bool) → All IsOfItems (cond b (Group g (o ∷ inputs) ∷ ss) (Group g (o ∷ []) ∷ Group h inputs ∷ ss))
      by true =
          All-cons IsOfItems (Group g (o ∷ inputs)) ss
          (All-cons IsArchiveAt o inputs here (All-head IsOfItems (Group h inputs) ss all)) (All-tail IsOfItems (Group h inputs) ss all)
      by false = All-cons IsOfItems (Group g (o ∷ [])) (Group h inputs ∷ ss) (All-cons IsArchiveAt o [] here (All-nil IsArchiveAt)) all

  before_items : (o : Opened) (g : Option ℕ) (ss : List Step) → group_of o ≡ g → IsAt o → All IsOfItems ss → All IsOfItems (before_steps o g ss)
  before_items o None ss e at all = All-cons IsOfItems (Single o) ss at all
  before_items o (Some g) ss e at all = joined_items o g ss (at, archive_of_group o g e) all

  steps_items : (xs : List Opened) → All IsAt xs → All IsOfItems (steps xs)
  steps_items [] all = All-nil IsOfItems
  steps_items (o ∷ xs) all = before_items o (group_of o) (steps xs) refl (All-head IsAt o xs all) (steps_items xs (All-tail IsAt o xs all))

-- opened items stand at their numbers
at_from :
    (files : List File) (directories : List (List ℕ)) (whole : List Opened) (k : ℕ) (items : List Item) →
    ((j : ℕ) → slice_get whole (k + j) ≡ slice_get (opened_from files directories k items) j) → All (IsAt whole) (opened_from files directories k items)
at_from files directories whole k [] same = All-nil (IsAt whole)
at_from files directories whole k (item ∷ items) same =
    let first : k ≡ k + 0 = omega arith in
    All-cons (IsAt whole) (opened_item files directories k item) (opened_from files directories (k + 1) items) (ap (slice_get whole) first ∙ same 0)
    (at_from files directories whole (k + 1) items (λ j. let next : (k + 1) + j ≡ k + suc j = omega arith in ap (slice_get whole) next ∙ same (suc j)))

all_at : (files : List File) (plan : Plan) → All (IsAt (opened files plan)) (opened files plan)
all_at files plan = at_from files plan.directories (opened files plan) 0 plan.items (λ j. let e : 0 + j ≡ j = omega arith in ap (slice_get (opened files plan)) e)

pub loaded_in_order : (files : List File) (plan : Plan) → objects_in_order files plan (object_rows 0 (loaded_objects files plan)) ≡ loaded_objects files plan
unfolding Built objects_in_order loaded_objects
loaded_in_order files plan =
    built_steps (opened files plan) plan (steps (opened files plan)) [] (steps_items (opened files plan) (opened files plan) (all_at files plan)) refl

-- Lines that are listed and asked for are those of objects in loading order, and their objects can be loaded.
use Rattle.std.proofs.Common.{◌≡◌, ℕ, ◌<◌, ◌≤◌, List, [], ◌∷◌, Option, None, Some, ap, arith, get_or, length, map, refl, subst, sym, take, ◌∙◌}
use Rattle.std.specs.Prelude.{◌↔◌, All, AllPairs, IsPermutation, slice_get}
use Rattle.std.specs.Option.{option_map_or}
use Rattle.std.proofs.lemmas.List.Elements.{All-map, All-push, All-nil}
use Rattle.std.proofs.lemmas.List.Sorted.{All-permutation, IsPermutation-map}
use Rattle.std.proofs.lemmas.Option.{get_or_from_slice_get, slice_get_within}
use Rattle.elf_model.specs.Image.MapRecord.{ObjectRow, object_row}
use Rattle.elf_model.specs.Image.RightLink.{object_rows}
use Rattle.elf_model.specs.Inputs.Command.{Plan}
use Rattle.elf_model.specs.Inputs.Files.{File}
use Rattle.elf_model.specs.Inputs.ObjectFile.{IsObject, groups}
use Rattle.elf_model.specs.Inputs.Opening.{Opened, opened}
use Rattle.elf_model.specs.Link.Groups.{AreLawfulGroups}
use Rattle.elf_model.specs.Link.Loading.{LoadedObject, loaded_objects, object_behind, with_object}
use Rattle.elf_model.specs.declared.link_map.ObjectLine.{ObjectLine}
use Rattle.elf_model.proofs.Listed.{All-unmap}
use Rattle.elf_model.proofs.Pairs.{AllPairs-map, AllPairs-unmap}
use Rattle.check_load.proofs.PlaceLaws.{all_at}
use Rattle.check_load.proofs.RoundLaws.{side_opened}
use Rattle.check_load.specs.Loaders.{AreLoadable}
use Rattle.check_load.specs.Places.{IsAt}
use Rattle.check_load.specs.Plans.{CanLoad}
use Rattle.judge_law.proofs.InOrder.{loaded_in_order}
use Rattle.judge_model.specs.Loaded.{AreInTurn, AreReadable, IsLoaded, IsNeeded, Origin, objects_behind, objects_in_order, origin_of, row_bytes, with_row}
use Rattle.order_judge.specs.Asked.{AreAskedFor}
use Rattle.order_judge.specs.Lines.{AreLines}
use Rattle.order_judge.specs.Listed.{AreListed}
use Rattle.order_judge.specs.Origins.{origin_of_line, origin_of_pair, origin_of_row}
use Rattle.order_judge.specs.Turns.{AreOriginsInTurn}
use Rattle.order_judge.proofs.AskedLaws.{asked_told}
use Rattle.order_judge.proofs.LineLaws.{added, added_is, lines_from_rows, origins_of_lines, rows_from_lines}

-- Items stand at their numbers.
pub numbered : (files : List File) (plan : Plan) (i : ℕ) (o : Opened) → slice_get (opened files plan) i ≡ Some o → o.number ≡ i
numbered files plan i o there =
    let os = opened files plan in
    let own : slice_get os o.number ≡ Some o = subst (IsAt os) (get_or_from_slice_get os i o o there) (all_at files plan i o (slice_get_within os i o there)) in
    let side = side_opened files plan i o.number o o there own in
    omega (arith, side)

-- The bytes of an object are told by its origin.
abbrev bytes_at : List Opened → Origin → List ℕ
bytes_at os a = option_map_or (λ o. row_bytes o (record { object = 0; item = a.item; offset = a.offset; path = [] })) (slice_get os a.item) []

abbrev HasItsBytes : List Opened → LoadedObject → Type 0
HasItsBytes os x = x.bytes ≡ bytes_at os (origin_of x)

module _ (files : List File) (plan : Plan) where
  bytes_more :
      (before : List LoadedObject) (rows : List ObjectRow) → All (HasItsBytes (opened files plan)) before →
      All (HasItsBytes (opened files plan)) (objects_behind (opened files plan) before rows)
  bytes_more before [] each = each
  bytes_more before (row ∷ rows) each = bytes_more (with_row (opened files plan) before row) rows (by (slice_get (opened files plan) row.item) refl)
    where
      by : (found : Option Opened) → slice_get (opened files plan) row.item ≡ found →
          All (HasItsBytes (opened files plan)) (option_map_or (λ o. with_object before o row.offset (row_bytes o row)) found before)
      by None e = each
      by (Some o) e =
          let there : slice_get (opened files plan) o.number ≡ Some o = ap (slice_get (opened files plan)) (numbered files plan row.item o e) ∙ e in
          All-push (HasItsBytes (opened files plan)) before (object_behind before o row.offset (row_bytes o row)) each
          (sym (ap (λ (f : Option Opened). option_map_or (λ p. row_bytes p (record { object = 0; item = o.number; offset = row.offset; path = [] })) f []) there))

  bytes_of_rows : (rows : List ObjectRow) → All (HasItsBytes (opened files plan)) (objects_in_order files plan rows)
  unfolding objects_in_order
  bytes_of_rows rows = bytes_more [] rows (All-nil (HasItsBytes (opened files plan)))

  bytes_of_loaded : All (HasItsBytes (opened files plan)) (loaded_objects files plan)
  bytes_of_loaded =
      subst (All (HasItsBytes (opened files plan))) (loaded_in_order files plan) (bytes_of_rows (object_rows 0 (loaded_objects files plan)))

  -- what holds of the bytes of all loaded objects holds of those of objects with the same origins
  same_bytes :
      (P : List ℕ → Type 0) (rows : List ObjectRow) →
      IsPermutation (map origin_of (loaded_objects files plan)) (map origin_of (objects_in_order files plan rows)) →
      All (λ (x : LoadedObject). P x.bytes) (loaded_objects files plan) → All (λ (x : LoadedObject). P x.bytes) (objects_in_order files plan rows)
  same_bytes P rows same each k d within =
      let at : Origin → Type 0 = λ a. P (bytes_at (opened files plan) a) in
      let loaded_ : All (λ (x : LoadedObject). P (bytes_at (opened files plan) (origin_of x))) (loaded_objects files plan) =
      λ i x low. subst P (bytes_of_loaded i x low) (each i x low) in
      let here =
      All-unmap at origin_of (objects_in_order files plan rows)
      (All-permutation at (map origin_of (loaded_objects files plan)) (map origin_of (objects_in_order files plan rows)) same
      (All-map at origin_of (loaded_objects files plan) loaded_)) in
      subst P (sym (bytes_of_rows rows k d within)) (here k d within)

  pub can_load : (rows : List ObjectRow) → AreReadable files plan →
      IsPermutation (map origin_of (loaded_objects files plan)) (map origin_of (objects_in_order files plan rows)) → AreLoadable (objects_in_order files plan rows)
  can_load rows readable same = record {
    objects_are = same_bytes IsObject rows same readable.objects;
    lawful = same_bytes (λ bytes. AreLawfulGroups (groups bytes)) rows same readable.groups;
  }

  -- the lines of objects in order
  in_order : (rows : List ObjectRow) → objects_in_order files plan rows ≡ added (opened files plan) [] rows
  unfolding objects_in_order
  in_order rows = added_is (opened files plan) [] rows

  pub lines_told : (rows : List ObjectRow) → AreLines (opened files plan) 0 rows ↔ (rows ≡ object_rows 0 (objects_in_order files plan rows))
  lines_told rows = (
    λ lines. rows_from_lines (opened files plan) (numbered files plan) 0 [] rows lines ∙ ap (object_rows 0) (sym (in_order rows)),
    λ is. lines_from_rows (opened files plan) (numbered files plan) 0 [] rows (is ∙ ap (object_rows 0) (in_order rows)),
  )

  pub origins_told : (rows : List ObjectRow) → AreLines (opened files plan) 0 rows → map origin_of (objects_in_order files plan rows) ≡ map origin_of_row rows
  origins_told rows lines = ap (map origin_of) (in_order rows) ∙ origins_of_lines (opened files plan) (numbered files plan) [] rows lines

  pub listed_same : (rows : List ObjectRow) → AreListed files plan rows →
      IsPermutation (map origin_of (loaded_objects files plan)) (map origin_of (objects_in_order files plan rows))
  listed_same rows listed =
      subst (IsPermutation (map origin_of (loaded_objects files plan))) (sym (origins_told rows listed.lines)) listed.same

  turns_told : (rows : List ObjectRow) → AreLines (opened files plan) 0 rows →
      AllPairs (AreOriginsInTurn (opened files plan)) (map origin_of_row rows) ↔ AllPairs (AreInTurn (opened files plan)) (objects_in_order files plan rows)
  turns_told rows lines = (
    λ pairs.
        AllPairs-unmap (AreOriginsInTurn (opened files plan)) origin_of (objects_in_order files plan rows)
        (subst (AllPairs (AreOriginsInTurn (opened files plan))) (sym (origins_told rows lines)) pairs),
    λ pairs.
        subst (AllPairs (AreOriginsInTurn (opened files plan))) (origins_told rows lines)
        (AllPairs-map (AreOriginsInTurn (opened files plan)) origin_of (objects_in_order files plan rows) pairs),
  )

  asked_in_order : (rows : List ObjectRow) → AreLines (opened files plan) 0 rows →
      AreAskedFor (opened files plan) plan [] rows
      ↔ ((k : ℕ) (o : LoadedObject) → 0 ≤ k → k < length (objects_in_order files plan rows) →
      IsNeeded (opened files plan) plan (take k (objects_in_order files plan rows)) (get_or (objects_in_order files plan rows) k o))
  unfolding objects_in_order
  asked_in_order rows lines = asked_told (opened files plan) plan (all_at files plan) (numbered files plan) 0 [] rows lines

  pub right_lines : (rows : List ObjectRow) → AreListed files plan rows → AreAskedFor (opened files plan) plan [] rows → IsLoaded files plan rows
  right_lines rows listed asked = record {
    rows_are = (lines_told rows).0 listed.lines;
    same = listed_same rows listed;
    order = record {
      named = (turns_told rows listed.lines).0 listed.turns;
      needed = λ k o low. (asked_in_order rows listed.lines).0 asked k o (omega arith) low;
    };
  }

  pub listed_if_right : (rows : List ObjectRow) → IsLoaded files plan rows → AreListed files plan rows
  listed_if_right rows is =
      let lines = (lines_told rows).1 is.rows_are in
      record {
        lines = lines;
        turns = (turns_told rows lines).1 is.order.named;
        same = subst (IsPermutation (map origin_of (loaded_objects files plan))) (origins_told rows lines) is.same;
      }

  pub asked_if_right : (rows : List ObjectRow) → IsLoaded files plan rows → AreAskedFor (opened files plan) plan [] rows
  asked_if_right rows is = (asked_in_order rows ((lines_told rows).1 is.rows_are)).1 (λ k o from low. is.order.needed k o low)

pub readable_if_loads : (files : List File) (plan : Plan) → CanLoad files plan → AreReadable files plan
readable_if_loads files plan can = record {
  files_are = can.files_there;
  archives = can.archives;
  indexes = can.indexes;
  objects = can.objects;
  groups = can.groups;
}

pub loads_if_readable : (files : List File) (plan : Plan) → AreReadable files plan → CanLoad files plan
loads_if_readable files plan readable = record {
  files_there = readable.files_are;
  archives = readable.archives;
  indexes = readable.indexes;
  objects = readable.objects;
  groups = readable.groups;
}

-- Pairs of items and offsets are as good as origins.
pair_of : Origin → ℕ × ℕ
pair_of a = (a.item, a.offset)

pairs_back : (ps : List (ℕ × ℕ)) → map pair_of (map origin_of_pair ps) ≡ ps
unfolding pair_of
pairs_back [] = refl
pairs_back (p ∷ ps) = ap (λ (l : List (ℕ × ℕ)). p ∷ l) (pairs_back ps)

pub same_origins :
    (ps qs : List (ℕ × ℕ)) (us vs : List Origin) → map origin_of_pair ps ≡ us → map origin_of_pair qs ≡ vs → IsPermutation ps qs ↔ IsPermutation us vs
same_origins ps qs us vs e f = (
  λ same.
      subst (λ (l : List Origin). IsPermutation l vs) e
      (subst (IsPermutation (map origin_of_pair ps)) f (IsPermutation-map origin_of_pair ps qs same)),
  λ same.
      let moved =
      IsPermutation-map pair_of (map origin_of_pair ps) (map origin_of_pair qs)
      (subst (λ (l : List Origin). IsPermutation l (map origin_of_pair qs)) (sym e) (subst (IsPermutation us) (sym f) same)) in
      subst (λ (l : List (ℕ × ℕ)). IsPermutation l qs) (pairs_back ps) (subst (IsPermutation (map pair_of (map origin_of_pair ps))) (pairs_back qs) moved),
)

pub lines_are : (lines : List ObjectLine) → map origin_of_row (map object_row lines) ≡ map origin_of_line lines
lines_are [] = refl
lines_are (l ∷ lines) = ap (λ (os : List Origin). origin_of_line l ∷ os) (lines_are lines)

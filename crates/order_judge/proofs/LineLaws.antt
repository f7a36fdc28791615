-- Lines of objects, and the objects that they name.
use Rattle.std.proofs.Common.{◌≡◌, ℕ, ◌+◌, ◌≤◌, List, [], ◌∷◌, ◌++◌, Option, None, Some, ap, arith, append_assoc, length, map, refl, subst, sym, ◌∙◌}
use Rattle.std.specs.Prelude.{IsSomeAnd, slice_get}
use Rattle.std.specs.Option.{option_map_or}
use Rattle.std.proofs.lemmas.List.{append-nil}
use Rattle.elf_model.specs.Image.MapRecord.{ObjectRow}
use Rattle.elf_model.specs.Image.RightLink.{object_rows}
use Rattle.elf_model.specs.Inputs.Opening.{Opened}
use Rattle.elf_model.specs.Link.Loading.{LoadedObject, object_behind, with_object}
use Rattle.elf_model.proofs.Listed.{cons_head, cons_tail}
use Rattle.judge_model.specs.Loaded.{Origin, objects_behind, origin_of, row_bytes}
use Rattle.order_judge.specs.Lines.{AreLines, IsLine, IsPathOf}
use Rattle.order_judge.specs.Origins.{origin_of_row}

-- The objects that lines add to those that are loaded.
abbrev one : List LoadedObject → ObjectRow → Opened → LoadedObject
one objects row o = object_behind objects o row.offset (row_bytes o row)

abbrev with_one : List LoadedObject → ObjectRow → Opened → List LoadedObject
with_one objects row o = with_object objects o row.offset (row_bytes o row)

abbrev pub added : List Opened → List LoadedObject → List ObjectRow → List LoadedObject
added os objects [] = []
added os objects (row ∷ rows) =
    option_map_or (λ o. one objects row o ∷ added os (with_one objects row o) rows) (slice_get os row.item) (added os objects rows)

pub added_is : (os : List Opened) (objects : List LoadedObject) (rows : List ObjectRow) → objects_behind os objects rows ≡ objects ++ added os objects rows
added_is os objects [] = sym (append-nil objects)
added_is os objects (row ∷ rows) = by (slice_get os row.item) (added_is os objects rows) (λ o. added_is os (with_one objects row o) rows)
  where
    by : (found : Option Opened) → objects_behind os objects rows ≡ objects ++ added os objects rows →
        ((o : Opened) → objects_behind os (with_one objects row o) rows ≡ with_one objects row o ++ added os (with_one objects row o) rows) →
        objects_behind os (option_map_or (with_one objects row) found objects) rows
        ≡ objects ++ option_map_or (λ o. one objects row o ∷ added os (with_one objects row o) rows) found (added os objects rows)
    by None none some = none
    by (Some o) none some = some o ∙ append_assoc objects (one objects row o ∷ []) (added os (with_one objects row o) rows)

added_short : (os : List Opened) (objects : List LoadedObject) (rows : List ObjectRow) → length (added os objects rows) ≤ length rows
added_short os objects [] = omega arith
added_short os objects (row ∷ rows) = by (slice_get os row.item) (added_short os objects rows) (λ o. added_short os (with_one objects row o) rows)
  where
    by : (found : Option Opened) → length (added os objects rows) ≤ length rows →
        ((o : Opened) → length (added os (with_one objects row o) rows) ≤ length rows) →
        length (option_map_or (λ o. one objects row o ∷ added os (with_one objects row o) rows) found (added os objects rows)) ≤ length (row ∷ rows)
    by None none some = omega (arith, none)
    by (Some o) none some = let s = some o in omega (arith, s)

rows_length : (k : ℕ) (xs : List LoadedObject) → length (object_rows k xs) ≡ length xs
rows_length k [] = refl
rows_length k (x ∷ xs) = let e = rows_length (k + 1) xs in omega (arith, e)

rows_origins : (k : ℕ) (xs : List LoadedObject) → map origin_of_row (object_rows k xs) ≡ map origin_of xs
rows_origins k [] = refl
rows_origins k (x ∷ xs) = ap (λ (l : List Origin). origin_of x ∷ l) (rows_origins (k + 1) xs)

-- Items stand at their numbers.
module _ (os : List Opened) (numbered : (i : ℕ) (o : Opened) → slice_get os i ≡ Some o → o.number ≡ i) where
  line_is : (k : ℕ) (row : ObjectRow) (o : Opened) → slice_get os row.item ≡ Some o → row.object ≡ k → row.path ≡ o.path
      → row ≡ record { object = k; item = o.number; offset = row.offset; path = o.path }
  line_is k row o there number path =
      let item = sym (numbered row.item o there) in
      (λ j. record { object = number j; item = item j; offset = row.offset; path = path j })

  pub rows_from_lines : (k : ℕ) (objects : List LoadedObject) (rows : List ObjectRow) → AreLines os k rows → rows ≡ object_rows k (added os objects rows)
  rows_from_lines k objects [] lines = refl
  rows_from_lines k objects (row ∷ rows) lines =
      by (slice_get os row.item) refl lines.0.path (λ o. rows_from_lines (k + 1) (with_one objects row o) rows lines.1)
    where
      by : (found : Option Opened) → slice_get os row.item ≡ found → IsSomeAnd found (IsPathOf row.path) →
          ((o : Opened) → rows ≡ object_rows (k + 1) (added os (with_one objects row o) rows)) →
          row ∷ rows ≡ object_rows k (option_map_or (λ o. one objects row o ∷ added os (with_one objects row o) rows) found (added os objects rows))
      by None there path rest = absurd path
      by (Some o) there path rest =
          let first = line_is k row o there lines.0.number path in
          let others = rest o in
          (λ j. first j ∷ others j)

  pub lines_from_rows : (k : ℕ) (objects : List LoadedObject) (rows : List ObjectRow) → rows ≡ object_rows k (added os objects rows) → AreLines os k rows
  lines_from_rows k objects [] is = tt
  lines_from_rows k objects (row ∷ rows) is =
      by (slice_get os row.item) refl is (λ o. lines_from_rows (k + 1) (with_one objects row o) rows)
    where
      by : (found : Option Opened) → slice_get os row.item ≡ found →
          row ∷ rows ≡ object_rows k (option_map_or (λ o. one objects row o ∷ added os (with_one objects row o) rows) found (added os objects rows)) →
          ((o : Opened) → rows ≡ object_rows (k + 1) (added os (with_one objects row o) rows) → AreLines os (k + 1) rows) →
          IsLine os k row × AreLines os (k + 1) rows
      by None there e rest =
          let n : length (row ∷ rows) ≡ length (object_rows k (added os objects rows)) = ap length e in
          let m = rows_length k (added os objects rows) in
          let s = added_short os objects rows in
          absurd (omega (arith, n, m, s))
      by (Some o) there e rest =
          let first = cons_head e in (
            record {
              number = ap (λ (r : ObjectRow). r.object) first;
              path = subst (λ (f : Option Opened). IsSomeAnd f (IsPathOf row.path)) (sym there) (ap (λ (r : ObjectRow). r.path) first);
            },
            rest o (cons_tail e),
          )

  pub origins_of_lines : (objects : List LoadedObject) (rows : List ObjectRow) → AreLines os 0 rows → map origin_of (added os objects rows) ≡ map origin_of_row rows
  origins_of_lines objects rows lines =
      sym (rows_origins 0 (added os objects rows)) ∙ ap (map origin_of_row) (sym (rows_from_lines 0 objects rows lines))

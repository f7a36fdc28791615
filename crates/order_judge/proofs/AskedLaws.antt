-- Lines of which each is asked for when it is loaded lead to objects of which each is needed, or named by the command.
use Rattle.std.proofs.Common.{◌≡◌, ℕ, ◌+◌, ◌<◌, ◌≤◌, ◌⊎◌, inl, inr, false, List, [], ◌∷◌, ◌++◌, Option, None, Some, ap, arith, get_or, length, length-append, refl, subst, sym, take, ◌∙◌}
use Rattle.std.specs.Prelude.{◌↔◌, All, Any, IsSomeAnd, slice_get}
use Rattle.std.specs.Option.{option_map_or}
use Rattle.std.proofs.lemmas.Bool.{cases_lt}
use Rattle.std.proofs.lemmas.List.{get_or-append-add, get_or_append_left, take-append-le, take_all}
use Rattle.std.proofs.lemmas.Option.{same_Some}
use Rattle.elf_model.specs.Image.MapRecord.{ObjectRow}
use Rattle.elf_model.specs.Inputs.Command.{Plan}
use Rattle.elf_model.specs.Inputs.Opening.{Opened, archive_entries}
use Rattle.elf_model.specs.Link.Loading.{LoadedObject, object_behind, with_object}
use Rattle.elf_model.proofs.Finding.{Any-from_contains}
use Rattle.elf_model.proofs.Listed.{Contains-from_slice_get}
use Rattle.elf_model.proofs.LoadingBounds.{Extends}
use Rattle.check_load.specs.Places.{IsAt}
use Rattle.judge_model.specs.Loaded.{IsNeeded, is_named_by, objects_behind, row_bytes}
use Rattle.judge_load.proofs.RowLaws.{rows_extend}
use Rattle.order_judge.specs.Asked.{AreAskedFor}
use Rattle.order_judge.specs.Lines.{AreLines, IsPathOf}
use Rattle.order_judge.specs.MemberNames.{IsAskedFor, IsNeededAt}

-- each object from a number on is needed behind those before it, or named
abbrev pub AreNeededFrom : List Opened → Plan → ℕ → List LoadedObject → Type 0
AreNeededFrom os plan n all = (k : ℕ) (o : LoadedObject) → n ≤ k → k < length all → IsNeeded os plan (take k all) (get_or all k o)

-- what stands behind others is the first of what they lead to
module _ (before : List LoadedObject) (x : LoadedObject) (all : List LoadedObject) (extends : Extends (before ++ x ∷ []) all) where
  longer : length before < length all
  longer =
      let n : length all ≡ length ((before ++ x ∷ []) ++ extends.0) = ap length extends.1 in
      let m = length-append (before ++ x ∷ []) extends.0 in
      let l = length-append before (x ∷ []) in
      omega (arith, n, m, l)

  first_ones : take (length before) all ≡ before
  first_ones =
      let l = length-append before (x ∷ []) in
      ap (take (length before)) extends.1
      ∙ (take-append-le (length before) (before ++ x ∷ []) extends.0 (omega (arith, l))
      ∙ (take-append-le (length before) before (x ∷ []) (omega arith) ∙ take_all (length before) before (omega arith)))

  first_one : (d : LoadedObject) → get_or all (length before) d ≡ x
  first_one d =
      let l = length-append before (x ∷ []) in
      let e : length before ≡ length before + 0 = omega arith in
      ap (λ (l : List LoadedObject). get_or l (length before) d) extends.1
      ∙ (get_or_append_left (before ++ x ∷ []) extends.0 d (length before) (omega (arith, l))
      ∙ (ap (λ (n : ℕ). get_or (before ++ x ∷ []) n d) e ∙ get_or-append-add before (x ∷ []) 0 d))

module _ (os : List Opened) (plan : Plan) (at : All (IsAt os) os) (numbered : (i : ℕ) (o : Opened) → slice_get os i ≡ Some o → o.number ≡ i) where
  -- the item of a number is the one at it
  only_one : (o i : Opened) (k : ℕ) → slice_get os o.number ≡ Some o → k < length os → get_or os k i ≡ i → i.number ≡ o.number → o ≡ i
  only_one o i k there low is same =
      let own : slice_get os i.number ≡ Some i = subst (IsAt os) is (at k i low) in
      same_Some o i (sym there ∙ (ap (slice_get os) (sym same) ∙ own))

  asked_needed :
      (before : List LoadedObject) (o : Opened) (offset : ℕ) (bytes : List ℕ) → slice_get os o.number ≡ Some o →
      IsAskedFor plan before offset o ↔ IsNeeded os plan before (object_behind before o offset bytes)
  asked_needed before o offset bytes there = (
    λ asked unnamed.
        Any-from_contains (λ (i : Opened). (i.number ≡ o.number) × Any (IsNeededAt plan before offset) (archive_entries i.bytes)) os o
        (Contains-from_slice_get os o.number o there) (refl, asked (sym named ∙ unnamed)),
    λ needs unnamed.
        let any = needs (named ∙ unnamed) in
        let same = only_one o any.1 any.0 there any.2 any.3 any.4.0 in
        subst (λ (i : Opened). Any (IsNeededAt plan before offset) (archive_entries i.bytes)) (sym same) any.4.1,
  )
    where
      named : option_map_or is_named_by (slice_get os o.number) false ≡ is_named_by o
      named = ap (λ (f : Option Opened). option_map_or is_named_by f false) there

  pub asked_told :
      (k : ℕ) (before : List LoadedObject) (rows : List ObjectRow) → AreLines os k rows →
      AreAskedFor os plan before rows ↔ AreNeededFrom os plan (length before) (objects_behind os before rows)
  asked_told k before [] lines = (λ asked i o from low. absurd (omega (arith, from, low)), λ needs. tt)
  asked_told k before (row ∷ rows) lines =
      by (slice_get os row.item) refl lines.0.path
      (λ o. asked_told (k + 1) (with_object before o row.offset (row_bytes o row)) rows lines.1)
    where
      by : (found : Option Opened) → slice_get os row.item ≡ found → IsSomeAnd found (IsPathOf row.path) →
          ((o : Opened) →
          AreAskedFor os plan (with_object before o row.offset (row_bytes o row)) rows
          ↔ AreNeededFrom os plan (length (with_object before o row.offset (row_bytes o row)))
          (objects_behind os (with_object before o row.offset (row_bytes o row)) rows)) →
          (IsSomeAnd found (IsAskedFor plan before row.offset)
          × AreAskedFor os plan (option_map_or (λ o. with_object before o row.offset (row_bytes o row)) found before) rows)
          ↔ AreNeededFrom os plan (length before) (objects_behind os (option_map_or (λ o. with_object before o row.offset (row_bytes o row)) found before) rows)
      by None e path rest = absurd path
      by (Some o) e path rest = (to, back)
        where
          x : LoadedObject
          x = object_behind before o row.offset (row_bytes o row)

          all : List LoadedObject
          all = objects_behind os (with_object before o row.offset (row_bytes o row)) rows

          there : slice_get os o.number ≡ Some o
          there = ap (slice_get os) (numbered row.item o e) ∙ e

          extends : Extends (before ++ x ∷ []) all
          extends = rows_extend os (with_object before o row.offset (row_bytes o row)) rows

          one_more : length (with_object before o row.offset (row_bytes o row)) ≡ length before + 1
          one_more = length-append before (object_behind before o row.offset (row_bytes o row) ∷ [])

          to :
              IsAskedFor plan before row.offset o × AreAskedFor os plan (with_object before o row.offset (row_bytes o row)) rows →
              AreNeededFrom os plan (length before) (objects_behind os (with_object before o row.offset (row_bytes o row)) rows)
          to asked i d from low = choose (cases_lt (length before) i)
            where
              choose : (length before < i) ⊎ (i ≤ length before) → IsNeeded os plan (take i all) (get_or all i d)
              choose (inl above) = let n = one_more in (rest o).0 asked.1 i d (omega (arith, n, above)) low
              choose (inr most) =
                  let same : length before ≡ i = omega (arith, from, most) in
                  subst (λ (n : ℕ). IsNeeded os plan (take n all) (get_or all n d)) same
                  (subst (λ (l : List LoadedObject). IsNeeded os plan l (get_or all (length before) d)) (sym (first_ones before x all extends))
                  (subst (IsNeeded os plan before) (sym (first_one before x all extends d))
                  ((asked_needed before o row.offset (row_bytes o row) there).0 asked.0)))

          back :
              AreNeededFrom os plan (length before) (objects_behind os (with_object before o row.offset (row_bytes o row)) rows) →
              IsAskedFor plan before row.offset o × AreAskedFor os plan (with_object before o row.offset (row_bytes o row)) rows
          back needs =
              let first =
              subst (IsNeeded os plan before) (first_one before x all extends x)
              (subst (λ (l : List LoadedObject). IsNeeded os plan l (get_or all (length before) x)) (first_ones before x all extends)
              (needs (length before) x (omega arith) (longer before x all extends))) in (
                (asked_needed before o row.offset (row_bytes o row) there).1 first,
                (rest o).1 (λ i d from low. let n = one_more in needs i d (omega (arith, n, from)) low),
              )

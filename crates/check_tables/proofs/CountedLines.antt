-- Lines of a map that are right, and as many as there are names that have one: they are the lines of all names.
use Rattle.std.proofs.Common.{◌≡◌, ℕ, ◌+◌, ◌≤◌, Bool, true, false, cond, ◌||◌, List, [], ◌∷◌, length, get_or, refl, sym, ◌∙◌, ap, subst, arith, true≢false, Option, Some, None}
use Rattle.std.specs.Prelude.{◌↔◌, All, count_by, find, map, option_map}
use Rattle.std.specs.Cmp.{IsEquivalence}
use Rattle.std.specs.List.{AllByRecursion, IsDistinct, list_any}
use Rattle.std.specs.Set.{is_member}
use Rattle.std.specs.Str.{bytes_eq}
use Rattle.std.proofs.lemmas.Bool.{false≢true}
use Rattle.std.proofs.lemmas.List.{length-map}
use Rattle.std.proofs.lemmas.List.Elements.{All-contains}
use Rattle.std.proofs.lemmas.Map.Made.{length-le_from_is_member}
use Rattle.std.proofs.lemmas.Option.{none-some}
use Rattle.std.proofs.lemmas.Slice.Eq.{bytes_eq-Decides}
use Rattle.elf_model.proofs.Finding.{find-found}
use Rattle.elf_model.proofs.RisingNames.{all_found, counted, has, rises_from_ascends, rises_unique}
use Rattle.elf_model.specs.Link.Listing.{AreListed, listed}
use Rattle.elf_model.specs.Link.Loading.{LoadedObject}
use Rattle.elf_model.specs.Image.MapRecord.{SymbolRow}
use Rattle.elf_model.specs.Image.MapText.{Ascends, SymbolBefore}
use Rattle.elf_model.specs.Link.Meaning.{Meaning, meaning_name}
use Rattle.elf_model.specs.Link.Placement.{Where}
use Rattle.elf_model.specs.Image.RightLink.{HasLine, symbol_row_of}
use Rattle.check_tables.specs.Listed.{IsLine}

absent_apart : (n : List ℕ) (xs : List (List ℕ)) → is_member bytes_eq xs n ≡ false → AllByRecursion (λ y. bytes_eq n y ≡ false) xs
absent_apart n [] e = tt
absent_apart n (x ∷ xs) e = by (bytes_eq n x) refl (absent_apart n xs)
  where
    by : (b : Bool) → bytes_eq n x ≡ b → (is_member bytes_eq xs n ≡ false → AllByRecursion (λ y. bytes_eq n y ≡ false) xs) →
        AllByRecursion (λ y. bytes_eq n y ≡ false) (x ∷ xs)
    by true f rest = absurd (true≢false (sym (ap (λ (c : Bool). c || list_any (bytes_eq n) xs) f) ∙ e))
    by false f rest = (f, rest (sym (ap (λ (c : Bool). c || list_any (bytes_eq n) xs) f) ∙ e))

flips : (x y : List ℕ) → bytes_eq x y ≡ bytes_eq y x
flips x y = by (bytes_eq x y) (bytes_eq y x) refl refl
  where
    by : (a b : Bool) → bytes_eq x y ≡ a → bytes_eq y x ≡ b → a ≡ b
    by true true e f = refl
    by false false e f = refl
    by true false e f = absurd (true≢false (sym ((bytes_eq-Decides y x).1 (sym ((bytes_eq-Decides x y).0 e))) ∙ f))
    by false true e f = absurd (true≢false (sym ((bytes_eq-Decides x y).1 (sym ((bytes_eq-Decides y x).0 f))) ∙ e))

equivalence : IsEquivalence bytes_eq
equivalence = record {
  refl = λ x. (bytes_eq-Decides x x).1 refl;
  symm = flips;
  congr = λ x y z e. ap (λ (w : List ℕ). bytes_eq w z) ((bytes_eq-Decides x y).0 e);
}

-- things with names, of which no two have one
module _ {X : Type 0} (name : X → List ℕ) where
  abbrev named : List ℕ → X → Bool
  named n x = bytes_eq (name x) n

  apart : (n : List ℕ) (xs : List X) → count_by (named n) xs ≡ 0 → AllByRecursion (λ y. bytes_eq n y ≡ false) (map name xs)
  apart n [] none = tt
  apart n (x ∷ xs) none = by (named n x) refl (counted (named n) x xs) (apart n xs)
    where
      by : (b : Bool) → named n x ≡ b → count_by (named n) (x ∷ xs) ≡ cond (named n x) 1 0 + count_by (named n) xs →
          (count_by (named n) xs ≡ 0 → AllByRecursion (λ y. bytes_eq n y ≡ false) (map name xs)) →
          AllByRecursion (λ y. bytes_eq n y ≡ false) (map name (x ∷ xs))
      by true e c rest = let k = ap {B = ℕ} (λ b. cond b 1 0) e in absurd (omega (arith, c, k, none))
      by false e c rest =
          let k = ap {B = ℕ} (λ b. cond b 1 0) e in
          (flips n (name x) ∙ e, rest (omega (arith, c, k, none)))

  distinct : (xs : List X) → ((n : List ℕ) → count_by (named n) xs ≤ 1) → IsDistinct bytes_eq (map name xs)
  unfolding IsDistinct
  distinct [] few = tt
  distinct (x ∷ xs) few = (
    apart (name x) xs
        (let c = counted (named (name x)) x xs in
        let k = ap {B = ℕ} (λ b. cond b 1 0) ((bytes_eq-Decides (name x) (name x)).1 refl) in
        let f = few (name x) in omega (arith, c, k, f)),
    distinct xs (λ n. let c = counted (named n) x xs in let f = few n in omega (arith, c, f)),
  )

  -- a name among theirs is that of one that a search finds
  member_found : (n : List ℕ) (xs : List X) → is_member bytes_eq (map name xs) n ≡ true → (x : X) × (find (named n) xs ≡ Some x)
  member_found n [] e = absurd (false≢true e)
  member_found n (x ∷ xs) e = by (named n x) refl (member_found n xs)
    where
      by : (b : Bool) → named n x ≡ b → (is_member bytes_eq (map name xs) n ≡ true → (y : X) × (find (named n) xs ≡ Some y)) →
          (y : X) × (find (named n) (x ∷ xs) ≡ Some y)
      by true f rest = (x, ap (λ c. cond c (Some x) (find (named n) xs)) f)
      by false f rest =
          let behind = rest (sym (ap (λ (b : Bool). b || list_any (bytes_eq n) (map name xs)) (flips n (name x) ∙ f)) ∙ e) in
          (behind.0, ap (λ c. cond c (Some x) (find (named n) xs)) f ∙ behind.1)

  found_member : (n : List ℕ) (xs : List X) (y : X) → find (named n) xs ≡ Some y → is_member bytes_eq (map name xs) n ≡ true
  found_member n [] y e = absurd (none-some y e)
  found_member n (x ∷ xs) y e = by (named n x) refl (found_member n xs y)
    where
      by : (b : Bool) → named n x ≡ b → (find (named n) xs ≡ Some y → is_member bytes_eq (map name xs) n ≡ true) →
          is_member bytes_eq (map name (x ∷ xs)) n ≡ true
      by true f rest = ap (λ (b : Bool). b || list_any (bytes_eq n) (map name xs)) (flips n (name x) ∙ f)
      by false f rest =
          ap (λ (b : Bool). b || list_any (bytes_eq n) (map name xs)) (flips n (name x) ∙ f)
          ∙ rest (sym (ap (λ c. cond c (Some x) (find (named n) xs)) f) ∙ e)

module _ (objects : List LoadedObject) (w : Where) (rows : List SymbolRow) (ms : List Meaning) (are : AreListed objects ms) (up : Ascends SymbolBefore rows) where
  abbrev row_name : SymbolRow → List ℕ
  row_name r = r.name

  few_rows : (n : List ℕ) → count_by (has n) rows ≤ 1
  few_rows n = rises_unique rows n (rises_from_ascends rows up)

  -- what a row of a name tells of what the name means
  means_from_row : All (IsLine objects w) rows → (n : List ℕ) (r : SymbolRow) → find (has n) rows ≡ Some r → option_map (symbol_row_of w) (listed objects n) ≡ Some r
  means_from_row lines n r e =
      let found = find-found (has n) rows r e in
      let same : r.name ≡ n = (bytes_eq-Decides r.name n).0 found.passes in
      subst (λ (m : List ℕ). option_map (symbol_row_of w) (listed objects m) ≡ Some r) same (All-contains (IsLine objects w) rows r lines found.there)

  some_meaning : (r : SymbolRow) (o : Option Meaning) → option_map (symbol_row_of w) o ≡ Some r → (m : Meaning) × (o ≡ Some m)
  some_meaning r None e = absurd (none-some r e)
  some_meaning r (Some m) e = (m, refl)

  among_meanings : (n : List ℕ) (r : SymbolRow) → option_map (symbol_row_of w) (listed objects n) ≡ Some r → is_member bytes_eq (map meaning_name ms) n ≡ true
  among_meanings n r e =
      let m = some_meaning r (listed objects n) e in
      found_member meaning_name n ms m.0 (are.found n ∙ m.1)

  -- rows that are lines are at most as many as the names that have one; and where a name has no row, fewer
  at_most : All (IsLine objects w) rows → length rows ≤ length ms
  at_most lines =
      let less = length-le_from_is_member equivalence (map row_name rows) (map meaning_name ms) (distinct row_name rows few_rows)
      (λ q there. let r = member_found row_name q rows there in among_meanings q r.0 (means_from_row lines q r.0 r.1)) in
      let a = length-map rows row_name in
      let b = length-map ms meaning_name in omega (arith, less, a, b)

  -- as many rows as names that have a line, each right: each name that has a line has its row
  whole : All (IsLine objects w) rows → length rows ≡ length ms → (n : List ℕ) (m : Meaning) → listed objects n ≡ Some m → find (has n) rows ≡ None → ⊥
  unfolding IsDistinct
  whole lines long n m is none =
      let xs : List (List ℕ) = map row_name rows in
      let absent : is_member bytes_eq xs n ≡ false = by (is_member bytes_eq xs n) refl in
      let less = length-le_from_is_member equivalence (n ∷ xs) (map meaning_name ms)
      (absent_apart n xs absent, distinct row_name rows few_rows)
      (λ q there. inside q (bytes_eq q n) refl there) in
      let a = length-map rows row_name in
      let b = length-map ms meaning_name in omega (arith, less, a, b, long)
    where
      by : (b : Bool) → is_member bytes_eq (map row_name rows) n ≡ b → is_member bytes_eq (map row_name rows) n ≡ false
      by false e = e
      by true e = let r = member_found row_name n rows e in absurd (none-some r.0 (sym none ∙ r.1))

      inside : (q : List ℕ) (b : Bool) → bytes_eq q n ≡ b → is_member bytes_eq (n ∷ map row_name rows) q ≡ true → is_member bytes_eq (map meaning_name ms) q ≡ true
      inside q true e there =
          let same : q ≡ n = (bytes_eq-Decides q n).0 e in
          found_member meaning_name q ms m (are.found q ∙ ap (listed objects) same ∙ is)
      inside q false e there =
          let behind : is_member bytes_eq (map row_name rows) q ≡ true = sym (ap (λ (c : Bool). c || list_any (bytes_eq q) (map row_name rows)) e) ∙ there in
          let r = member_found row_name q rows behind in
          among_meanings q r.0 (means_from_row lines q r.0 r.1)

  -- where each name has its line, each row is one, and there are as many as names that have one
  each_line : ((n : List ℕ) → HasLine rows objects w n) → All (IsLine objects w) rows
  each_line have k d within =
      let r = get_or rows k d in
      let own = all_found (has r.name) rows (few_rows r.name) k d within ((bytes_eq-Decides r.name r.name).1 refl) in
      sym (have r.name) ∙ own

  row_there : ((n : List ℕ) → HasLine rows objects w n) → (n : List ℕ) (m : Meaning) → listed objects n ≡ Some m → find (has n) rows ≡ Some (symbol_row_of w m)
  row_there have n m is = have n ∙ ap (option_map (symbol_row_of w)) is

  at_least : ((n : List ℕ) → HasLine rows objects w n) → length ms ≤ length rows
  at_least have =
      let less = length-le_from_is_member equivalence (map meaning_name ms) (map row_name rows) (distinct meaning_name ms are.once)
      (λ q there. let m = member_found meaning_name q ms there in
      found_member row_name q rows (symbol_row_of w m.0) (row_there have q m.0 (sym (are.found q) ∙ m.1))) in
      let a = length-map rows row_name in
      let b = length-map ms meaning_name in omega (arith, less, a, b)

  -- the lines of a map are those of the names that have one exactly if each is right and there are as many
  pub counted_lines : (All (IsLine objects w) rows × (length rows ≡ length ms)) ↔ ((n : List ℕ) → HasLine rows objects w n)
  counted_lines = (
    λ h n. by h n (find (has n) rows) refl (listed objects n) refl,
    λ have. let lines = each_line have in let a = at_most lines in let b = at_least have in (lines, omega (arith, a, b)),
  )
    where
      by : All (IsLine objects w) rows × (length rows ≡ length ms) → (n : List ℕ) →
          (r : Option SymbolRow) → find (has n) rows ≡ r → (o : Option Meaning) → listed objects n ≡ o → HasLine rows objects w n
      by h n (Some r) e o is = e ∙ sym (means_from_row h.0 n r e)
      by h n None e None is = e ∙ sym (ap (option_map (symbol_row_of w)) is)
      by h n None e (Some m) is = absurd (whole h.0 h.1 n m is e)

-- The rows of definitions in the order of their names.
use Rattle.std.proofs.Common.{◌≡◌, ℕ, ◌+◌, ◌<◌, List, [], ◌∷◌, length, get_or, sym, ◌∙◌, ap, arith}
use Rattle.std.specs.Prelude.{map, option_map}
use Rattle.std.specs.Cmp.Lexicographic.{slice_cmp}
use Rattle.std.specs.List.Sorted.{IsSortedByKey}
use Rattle.std.specs.Ordering.{is_lt, nat_cmp}
use Rattle.std.proofs.lemmas.List.{get_or-map, length-map}
use Rattle.elf_model.specs.Link.Loading.{LoadedObject}
use Rattle.elf_model.specs.Image.MapRecord.{SymbolRow}
use Rattle.elf_model.specs.Image.MapText.{Ascends, SymbolBefore}
use Rattle.elf_model.specs.Link.Listing.{AreListed}
use Rattle.elf_model.specs.Link.Meaning.{Meaning, meaning_name}
use Rattle.elf_model.specs.Link.Placement.{Where}
use Rattle.elf_model.specs.Image.RightLink.{HasLine, symbol_row_of}
use Rattle.elf_model.proofs.Found.{find-map}
use Rattle.elf_model.proofs.RisingNames.{before_from_sorted, has}

-- what joins the rows of what has a line, in any order, to the look-ups of the thirteenth clause
pub look_up :
    (objects : List LoadedObject) (w : Where) (ms : List Meaning) → AreListed objects ms → (n : List ℕ) → HasLine (map (symbol_row_of w) ms) objects w n
look_up objects w ms of n = find-map (has n) (symbol_row_of w) ms ∙ ap (option_map (symbol_row_of w)) (of.found n)

-- the definitions as a list of a type of one's own, which its names sort
module _ {X : Type 0} (view : X → Meaning) (w : Where) where
  name_at :
      (xs : List X) (i : ℕ) (d : X) (e : SymbolRow) → i < length xs →
      (get_or (map (symbol_row_of w) (map view xs)) i e).name ≡ meaning_name (view (get_or xs i d))
  name_at xs i d e within =
      let n = length-map xs view in
      ap (λ (r : SymbolRow). r.name) (get_or-map (symbol_row_of w) (map view xs) i (view d) e (omega (arith, within, n)))
      ∙ ap meaning_name (get_or-map view xs i d (view d) within)

  -- sorted definitions of which no two neighbours have one name: their rows ascend
  pub rows_ascend :
      (xs : List X) → IsSortedByKey (λ x. meaning_name (view x)) (slice_cmp nat_cmp) xs →
      ((k : ℕ) (d : X) → k + 1 < length xs → meaning_name (view (get_or xs k d)) ≡ meaning_name (view (get_or xs (k + 1) d)) → ⊥) →
      Ascends SymbolBefore (map (symbol_row_of w) (map view xs))
  rows_ascend [] up differ k e within = absurd (omega (arith, within))
  rows_ascend (x ∷ xs) up differ k e within =
      let m = length-map (map view (x ∷ xs)) (symbol_row_of w) in
      let n = length-map (x ∷ xs) view in
      let next : k + 1 < length (x ∷ xs) = omega (arith, within, m, n) in
      let here : k < length (x ∷ xs) = omega (arith, next) in
      let p = name_at (x ∷ xs) k x e here in
      let q = name_at (x ∷ xs) (k + 1) x e next in
      before_from_sorted
      ((get_or (map (symbol_row_of w) (map view (x ∷ xs))) k e).name)
      ((get_or (map (symbol_row_of w) (map view (x ∷ xs))) (k + 1) e).name)
      (ap (λ (a : List ℕ). is_lt (slice_cmp nat_cmp a (get_or (map (symbol_row_of w) (map view (x ∷ xs))) k e).name)) q
      ∙ ap (λ (a : List ℕ). is_lt (slice_cmp nat_cmp (meaning_name (view (get_or (x ∷ xs) (k + 1) x))) a)) p
      ∙ up k x (omega arith) next)
      (λ same. differ k x next (sym p ∙ same ∙ q))

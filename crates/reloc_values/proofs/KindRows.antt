-- The code's table of kinds, which has each at the place of its number, is the definitions' one.
use Rattle.std.proofs.Common.{◌≡◌, ℕ, zero, suc, ◌+◌, ◌<◌, ◌==◌, ◌&&◌, Bool, true, false, cond, List, [], ◌∷◌, Option, Some, None, refl, arith, ap, ◌∙◌}
use Rattle.std.specs.Prelude.{find, option_map}
use Rattle.std.specs.List.{slice_get}
use Rattle.std.specs.Option.{option_and_then}
use Rattle.std.proofs.lemmas.Bool.{eqb-true, eq-eqb, ne_eqb}
use Rattle.elf_model.specs.Link.Relocation as relocation
use Rattle.elf_model.proofs.Found.{find-map}
use Rattle.reloc_values.specs.Kinds.{formula_view, range_view}
use Rattle.reloc_values.specs.declared.kinds.TheConstants.{KINDS}
use Rattle.reloc_values.specs.declared.kinds.Formula.{Formula}
use Rattle.reloc_values.specs.declared.kinds.Range.{Range}

abbrev pub Row : Type 0
Row = ℕ × ℕ × Formula × Range

abbrev pub row_view : Row → relocation.Kind
row_view r = record { number = r.0; width = r.1; formula = formula_view r.2; range = range_view r.3 }

-- the rows of a table, and whether each is at the place of its number, the first place being n
abbrev rows : List (Option Row) → List Row
rows [] = []
rows (None ∷ table) = rows table
rows (Some r ∷ table) = r ∷ rows table

abbrev are_placed : ℕ → List (Option Row) → Bool
are_placed n [] = true
are_placed n (None ∷ table) = are_placed (n + 1) table
are_placed n (Some r ∷ table) = (r.0 == n) && are_placed (n + 1) table

both : (a b : Bool) → a && b ≡ true → (a ≡ true) × (b ≡ true)
both true b e = (refl, e)
both false b e = cc

-- a number below the first place has no row
none_below : (table : List (Option Row)) (n k : ℕ) → are_placed n table ≡ true → k < n → find (λ r. r.0 == k) (rows table) ≡ None
none_below [] n k placed low = refl
none_below (None ∷ table) n k placed low = none_below table (n + 1) k placed (omega (arith, low))
none_below (Some r ∷ table) n k placed low =
    let parts = both (r.0 == n) (are_placed (n + 1) table) placed in
    let at = eqb-true r.0 n parts.0 in
    let differs : (r.0 == k) ≡ false = ne_eqb r.0 k (λ e. omega (arith, at, low, e)) in
    ap (λ (b : Bool). cond b (Some r) (find (λ (q : Row). q.0 == k) (rows table))) differs ∙ none_below table (n + 1) k parts.1 (omega (arith, low))

-- the row of a number is the one at its place
pub at_place :
    (table : List (Option Row)) (n j k : ℕ) → are_placed n table ≡ true → k ≡ n + j →
    find (λ r. r.0 == k) (rows table) ≡ option_and_then (λ row. row) (slice_get table j)
at_place [] n j k placed at = refl
at_place (None ∷ table) n zero k placed at = none_below table (n + 1) k placed (omega (arith, at))
at_place (None ∷ table) n (suc j) k placed at = at_place table (n + 1) j k placed (omega (arith, at))
at_place (Some r ∷ table) n zero k placed at =
    let number = eqb-true r.0 n (both (r.0 == n) (are_placed (n + 1) table) placed).0 in
    let same : (r.0 == k) ≡ true = eq-eqb r.0 k (omega (arith, number, at)) in
    ap (λ (b : Bool). cond b (Some r) (find (λ (q : Row). q.0 == k) (rows table))) same
at_place (Some r ∷ table) n (suc j) k placed at =
    let parts = both (r.0 == n) (are_placed (n + 1) table) placed in
    let number = eqb-true r.0 n parts.0 in
    let differs : (r.0 == k) ≡ false = ne_eqb r.0 k (λ e. omega (arith, number, at, e)) in
    ap (λ (b : Bool). cond b (Some r) (find (λ (q : Row). q.0 == k) (rows table))) differs
    ∙ at_place table (n + 1) j k parts.1 (omega (arith, at))

pub row_found : (n : ℕ) → relocation.kind_of n ≡ option_map row_view (option_and_then (λ row. row) (slice_get KINDS n))
unfolding relocation.kind_of
row_found n =
    find-map (λ k. k.number == n) row_view (rows KINDS) ∙ ap (option_map row_view) (at_place KINDS 0 n n refl (omega arith))

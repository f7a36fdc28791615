-- Symbols are told apart by their objects' and their own numbers; and which definitions aren't chosen, by marks of those
-- that are.
use Rattle.std.proofs.Common.{◌≡◌, ℕ, zero, suc, ◌+◌, ◌<◌, ◌≤◌, ◌==◌, ◌⊎◌, inl, inr, Bool, true, false, List, [], ◌∷◌, Option, Some, None, get_or, refl, sym, subst, ap, ◌∙◌, arith}
use Rattle.std.specs.Prelude.{All, AllPairs, slice_get, slice_set}
use Rattle.std.specs.Option.{option_and_then, option_map_or}
use Rattle.std.proofs.lemmas.Bool.{and_parts, eqb-true}
use Rattle.std.proofs.lemmas.List.Elements.{All-append, All-cons, All-nil, All-weaker}
use Rattle.std.proofs.lemmas.List.Kept.{AllPairs-cons, AllPairs-filter}
use Rattle.std.proofs.lemmas.Option.{get_or_from_slice_get, none-some, same_Some, slice_get_within}
use Rattle.elf_model.proofs.Pairs.{AllPairs-append, AllPairs-nil}
use Rattle.elf_model.specs.Link.ChosenSymbols.{definitions, is_definition, is_same_symbol}
use Rattle.elf_model.specs.Link.Loading.{LoadedObject}
use Rattle.elf_model.specs.Inputs.ObjectFile.{symbols}
use Rattle.elf_model.specs.Link.Resolution.{SymbolOf, all_symbols, symbol_of, symbols_from, symbols_of}
use Rattle.elf_model.specs.declared.records.Symbol.{Symbol}
use Rattle.check_load.specs.NameNumbers.{number_of}
use Rattle.check_link.specs.Chosen.{AreChosen, AreOtherChoices, HaveMarks, marked_by, position_at, position_in}
use Rattle.check_link.specs.declared.chosen_definitions.Chosen.{Chosen}
use Rattle.check_link.proofs.Padded.{below_or_not}

abbrev Differ : SymbolOf → SymbolOf → Type 0
Differ s t = s.object ≡ t.object → s.number ≡ t.number → ⊥

-- a symbol of object k, from a number on
abbrev IsFrom : ℕ → ℕ → SymbolOf → Type 0
IsFrom k j s = (s.object ≡ k) × (j ≤ s.number)

from_numbers : (k : ℕ) (o : LoadedObject) (j : ℕ) (ss : List Symbol) → All (IsFrom k j) (symbols_from k o j ss)
from_numbers k o j [] = All-nil (IsFrom k j)
from_numbers k o j (s ∷ ss) =
    All-cons (IsFrom k j) (symbol_of k o j s) (symbols_from k o (j + 1) ss) (refl, omega arith)
    (All-weaker (IsFrom k (j + 1)) (IsFrom k j) (λ t n. (n.0, let l = n.1 in omega (arith, l))) (symbols_from k o (j + 1) ss) (from_numbers k o (j + 1) ss))

from_differ : (k : ℕ) (o : LoadedObject) (j : ℕ) (ss : List Symbol) → AllPairs Differ (symbols_from k o j ss)
from_differ k o j [] = AllPairs-nil Differ
from_differ k o j (s ∷ ss) =
    AllPairs-cons Differ (symbol_of k o j s) (symbols_from k o (j + 1) ss)
    (All-weaker (IsFrom k (j + 1)) (Differ (symbol_of k o j s)) (λ t n e f. let l = n.1 in omega (arith, l, f)) (symbols_from k o (j + 1) ss) (from_numbers k o (j + 1) ss))
    (from_differ k o (j + 1) ss)

of_numbers : (k : ℕ) (os : List LoadedObject) → All (λ s. k ≤ s.object) (symbols_of k os)
of_numbers k [] = All-nil (λ (s : SymbolOf). k ≤ s.object)
of_numbers k (o ∷ os) =
    All-append (λ (s : SymbolOf). k ≤ s.object) (symbols_from k o 0 (symbols o.bytes)) (symbols_of (k + 1) os)
    (All-weaker (IsFrom k 0) (λ s. k ≤ s.object) (λ s n. let e = n.0 in omega (arith, e)) (symbols_from k o 0 (symbols o.bytes)) (from_numbers k o 0 (symbols o.bytes)))
    (All-weaker (λ (s : SymbolOf). k + 1 ≤ s.object) (λ s. k ≤ s.object) (λ s n. omega (arith, n)) (symbols_of (k + 1) os) (of_numbers (k + 1) os))

of_differ : (k : ℕ) (os : List LoadedObject) → AllPairs Differ (symbols_of k os)
of_differ k [] = AllPairs-nil Differ
of_differ k (o ∷ os) =
    let here = symbols_from k o 0 (symbols o.bytes) in
    let others = symbols_of (k + 1) os in
    AllPairs-append Differ here others (from_differ k o 0 (symbols o.bytes)) (of_differ (k + 1) os)
    (All-weaker (IsFrom k 0) (λ s. All (Differ s) others)
    (λ s n. All-weaker (λ (t : SymbolOf). k + 1 ≤ t.object) (Differ s) (λ t m e f. let a = n.0 in omega (arith, a, m, e)) others (of_numbers (k + 1) os))
    here (from_numbers k o 0 (symbols o.bytes)))

definitions_differ : (objects : List LoadedObject) → AllPairs Differ (definitions objects)
definitions_differ objects = AllPairs-filter Differ is_definition (all_symbols objects) (of_differ 0 objects)

-- two places of one symbol are the same
same_place :
    (ss : List SymbolOf) (i p : ℕ) (s t : SymbolOf) → AllPairs Differ ss → slice_get ss i ≡ Some s → slice_get ss p ≡ Some t →
    is_same_symbol s t ≡ true → i ≡ p
same_place ss i p s t pairs at there same = by (below_or_not i p) (below_or_not p i)
  where
    parts : (s.object ≡ t.object) × (s.number ≡ t.number)
    parts =
        let two = and_parts (s.object == t.object) (s.number == t.number) same in
        (eqb-true s.object t.object two.0, eqb-true s.number t.number two.1)

    first : get_or ss i s ≡ s
    first = get_or_from_slice_get ss i s s at

    second : get_or ss p s ≡ t
    second = get_or_from_slice_get ss p t s there

    by : (i < p) ⊎ (p ≤ i) → (p < i) ⊎ (i ≤ p) → i ≡ p
    by (inl low) other =
        absurd
        (subst (λ (x : SymbolOf). Differ x t) first
        (subst (Differ (get_or ss i s)) second (pairs i p s low (slice_get_within ss p t there)))
        parts.0 parts.1)
    by (inr a) (inl low) =
        absurd
        (subst (λ (x : SymbolOf). Differ x s) second
        (subst (Differ (get_or ss p s)) first (pairs p i s low (slice_get_within ss i s at)))
        (sym parts.0) (sym parts.1))
    by (inr a) (inr b) = omega (arith, a, b)

-- a mark that isn't set was none before another was set, which is at another place
unset : (marks : List Bool) (q p : ℕ) → slice_get (slice_set marks q true) p ≡ Some false → (slice_get marks p ≡ Some false) × (p ≡ q → ⊥)
unset [] q p e = absurd (none-some false e)
unset (m ∷ ms) zero zero e = absurd (let f : true ≡ false = same_Some true false e in cc)
unset (m ∷ ms) zero (suc p) e = (e, λ h. omega (arith, h))
unset (m ∷ ms) (suc q) zero e = (e, λ h. omega (arith, h))
unset (m ∷ ms) (suc q) (suc p) e = let r = unset ms q p e in (r.0, λ h. r.1 (omega (arith, h)))

-- one position more has its mark
pub marks_more :
    (positions : List (Option ℕ)) (k : ℕ) (q : Option ℕ) (old new : List Bool) → new ≡ marked_by old q → position_at positions k ≡ q →
    ((n p : ℕ) → n < k → position_at positions n ≡ Some p → slice_get old p ≡ Some false → ⊥) →
    (n p : ℕ) → n < k + 1 → position_at positions n ≡ Some p → slice_get new p ≡ Some false → ⊥
marks_more positions k q old new is here before n p low at unmarked = by (below_or_not n k)
  where
    marked : slice_get (marked_by old q) p ≡ Some false
    marked = ap (λ (ms : List Bool). slice_get ms p) (sym is) ∙ unmarked

    was : (o : Option ℕ) → slice_get (marked_by old o) p ≡ Some false → slice_get old p ≡ Some false
    was None u = u
    was (Some i) u = (unset old i p u).0

    not_here : (o : Option ℕ) → slice_get (marked_by old o) p ≡ Some false → o ≡ Some p → ⊥
    not_here None u e = none-some p e
    not_here (Some i) u e = (unset old i p u).1 (sym (same_Some i p e))

    by : (n < k) ⊎ (k ≤ n) → ⊥
    by (inl below) = before n p below at (was q marked)
    by (inr past) =
        let e : n ≡ k = omega (arith, past, low) in
        not_here q marked (sym here ∙ (ap (position_at positions) (sym e) ∙ at))

-- definitions without a mark aren't chosen, where the positions of all chosen ones have one
pub unmarked_unchosen :
    (L : List LoadedObject) (ss : List SymbolOf) (index : Chosen) (own : List Bool) → ss ≡ definitions L → AreChosen L ss index →
    HaveMarks index own → AreOtherChoices L ss own
unmarked_unchosen L ss index own are chosen_are marks i s unmarked at =
    sym (ap (λ (o : Option SymbolOf). option_map_or (is_same_symbol s) o false) (chosen_are s.name)) ∙ by (position_in index s.name) refl
  where
    by : (o : Option ℕ) → position_in index s.name ≡ o → option_map_or (is_same_symbol s) (option_and_then (slice_get ss) o) false ≡ false
    by None e = refl
    by (Some p) e = found (slice_get ss p) refl
      where
        found : (t : Option SymbolOf) → slice_get ss p ≡ t → option_map_or (is_same_symbol s) t false ≡ false
        found None f = refl
        found (Some t) f = test (is_same_symbol s t) refl
          where
            test : (b : Bool) → is_same_symbol s t ≡ b → is_same_symbol s t ≡ false
            test false g = g
            test true g =
                absurd
                (marks (number_of index.names s.name) p e
                (subst (λ (j : ℕ). slice_get own j ≡ Some false)
                (same_place ss i p s t (subst (AllPairs Differ) (sym are) (definitions_differ L)) at f g) unmarked))

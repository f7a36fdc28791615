-- Pieces one behind the other from a running address on: each at a multiple of its alignment, all behind
-- where the run begins and before it ends, each behind all earlier ones, and near the one before it.
use Rattle.std.proofs.Common.{◌≡◌, ℕ, ◌+◌, ◌-◌, ◌/◌, ◌%◌, ◌<◌, ◌≤◌, List, [], ◌∷◌, ◌++◌, refl, sym, ap, subst, arith, div-add-mod'}
use Rattle.std.specs.Prelude.{All, AllPairs, Contains, map}
use Rattle.std.proofs.lemmas.Nat.{mod_below}
use Rattle.std.proofs.Math.Nat.{mul-mod_left}
use Rattle.std.proofs.lemmas.List.Elements.{All-cons, All-head, All-nil, All-tail, All-weaker}
use Rattle.std.proofs.lemmas.List.Kept.{AllPairs-cons}
use Rattle.elf_model.specs.Own.OwnLayout.{end_of, page_up, place_at, placed_end, placed_from}
use Rattle.elf_model.specs.Link.Pieces.{Piece}
use Rattle.elf_model.specs.Link.Placement.{IsNear, Placed, round_up}
use Rattle.elf_model.proofs.Listed.{Contains-here, Contains-there}
use Rattle.elf_model.proofs.Neighbours.{StandsBefore}
use Rattle.elf_model.proofs.Pairs.{AllPairs-nil}

abbrev pub HasAlignment : Piece → Type 0
HasAlignment p = 0 < p.align

-- rounding up gives the multiple that is not below the number and less than the alignment above it
pub rounded_up : (a x : ℕ) → 0 < a → (x ≤ round_up a x) × (round_up a x < x + a) × (round_up a x % a ≡ 0)
rounded_up a x some =
    let d = div-add-mod' (x + (a - 1)) a in
    let m : (x + (a - 1)) % a < a = mod_below (x + (a - 1)) a some in
    (omega (arith, d, m), omega (arith, d, m), mul-mod_left ((x + (a - 1)) / a) a)

pub paged_up : (x : ℕ) → x ≤ page_up x
paged_up x = (rounded_up 4096 x (omega arith)).0

-- the running address never falls
pub end_of-ge : (x : ℕ) (ps : List Piece) → All HasAlignment ps → x ≤ end_of x ps
end_of-ge x [] aligned = omega arith
end_of-ge x (p ∷ ps) aligned =
    let r = (rounded_up p.align x (All-head HasAlignment p ps aligned)).0 in
    let e = end_of-ge (placed_end (place_at x p)) ps (All-tail HasAlignment p ps aligned) in
    omega (arith, r, e)

-- a run of two lists is the one behind the other
pub placed_append : (x : ℕ) (ps qs : List Piece) → placed_from x (ps ++ qs) ≡ placed_from x ps ++ placed_from (end_of x ps) qs
placed_append x [] qs = refl
placed_append x (p ∷ ps) qs = ap (λ (rs : List Placed). place_at x p ∷ rs) (placed_append (placed_end (place_at x p)) ps qs)

abbrev pub StandsWithin : ℕ → ℕ → Placed → Type 0
StandsWithin low high q = (low ≤ q.at) × (placed_end q ≤ high)

pub placed_within : (x : ℕ) (ps : List Piece) → All HasAlignment ps → All (StandsWithin x (end_of x ps)) (placed_from x ps)
placed_within x [] aligned = All-nil (StandsWithin x x)
placed_within x (p ∷ ps) aligned =
    let r = (rounded_up p.align x (All-head HasAlignment p ps aligned)).0 in
    let y : ℕ = placed_end (place_at x p) in
    let rest = All-tail HasAlignment p ps aligned in
    let e = end_of-ge y ps rest in
    All-cons (StandsWithin x (end_of y ps)) (place_at x p) (placed_from y ps) (r, e)
    (All-weaker (StandsWithin y (end_of y ps)) (StandsWithin x (end_of y ps)) (λ q w. (omega (arith, r, w), w.1)) (placed_from y ps)
    (placed_within y ps rest))

abbrev pub IsAligned : Placed → Type 0
IsAligned q = q.at % q.piece.align ≡ 0

pub placed_aligned : (x : ℕ) (ps : List Piece) → All HasAlignment ps → All IsAligned (placed_from x ps)
placed_aligned x [] aligned = All-nil IsAligned
placed_aligned x (p ∷ ps) aligned =
    let y : ℕ = placed_end (place_at x p) in
    All-cons IsAligned (place_at x p) (placed_from y ps) (rounded_up p.align x (All-head HasAlignment p ps aligned)).2
    (placed_aligned y ps (All-tail HasAlignment p ps aligned))

-- q stands behind p
abbrev pub IsBehind : Placed → Placed → Type 0
IsBehind p q = placed_end p ≤ q.at

pub placed_ascending : (x : ℕ) (ps : List Piece) → All HasAlignment ps → AllPairs IsBehind (placed_from x ps)
placed_ascending x [] aligned = AllPairs-nil IsBehind
placed_ascending x (p ∷ ps) aligned =
    let y : ℕ = placed_end (place_at x p) in
    let rest = All-tail HasAlignment p ps aligned in
    AllPairs-cons IsBehind (place_at x p) (placed_from y ps)
    (All-weaker (StandsWithin y (end_of y ps)) (IsBehind (place_at x p)) (λ q w. w.0) (placed_from y ps) (placed_within y ps rest))
    (placed_ascending y ps rest)

-- they are the pieces of the run, in its order
pub placed_pieces : (x : ℕ) (ps : List Piece) → map (λ q. q.piece) (placed_from x ps) ≡ ps
placed_pieces x [] = refl
placed_pieces x (p ∷ ps) = ap (λ (qs : List Piece). p ∷ qs) (placed_pieces (placed_end (place_at x p)) ps)

-- two pieces among the placed, the second behind the first and near it
pub record ArePlacedNear (qs : List Placed) (a b : Piece) : Type 0 where
  pub first : Placed
  pub second : Placed
  pub first_there : Contains qs first
  pub second_there : Contains qs second
  pub first_is : first.piece ≡ a
  pub second_is : second.piece ≡ b
  pub near : IsNear first second

-- the second of two neighbours begins less than its own alignment behind the first's end
pub placed_near : (x : ℕ) (ps : List Piece) (a b : Piece) → All HasAlignment ps → StandsBefore ps a b → ArePlacedNear (placed_from x ps) a b
placed_near x ps a b aligned before =
    subst (λ (qs : List Piece). ArePlacedNear (placed_from x qs) a b) (sym before.is)
    (at x before.front (subst (All HasAlignment) before.is aligned))
  where
    more : (q : Placed) (qs : List Placed) → ArePlacedNear qs a b → ArePlacedNear (q ∷ qs) a b
    more q qs n = record {
      first = n.first;
      second = n.second;
      first_there = Contains-there q qs n.first n.first_there;
      second_there = Contains-there q qs n.second n.second_there;
      first_is = n.first_is;
      second_is = n.second_is;
      near = n.near;
    }

    at : (y : ℕ) (front : List Piece) → All HasAlignment (front ++ (a ∷ (b ∷ before.rest))) → ArePlacedNear (placed_from y (front ++ (a ∷ (b ∷ before.rest)))) a b
    at y [] all =
        let z : ℕ = placed_end (place_at y a) in
        let in_b = All-head HasAlignment b before.rest (All-tail HasAlignment a (b ∷ before.rest) all) in
        let r = rounded_up b.align z in_b in
        let rest : List Placed = placed_from (placed_end (place_at z b)) before.rest in
        record {
          first = place_at y a;
          second = place_at z b;
          first_there = Contains-here (place_at z b ∷ rest) (place_at y a);
          second_there = Contains-there (place_at y a) (place_at z b ∷ rest) (place_at z b) (Contains-here rest (place_at z b));
          first_is = refl;
          second_is = refl;
          near = record { behind = r.0; close = r.1 };
        }
    at y (p ∷ front) all =
        let z : ℕ = placed_end (place_at y p) in
        more (place_at y p) (placed_from z (front ++ (a ∷ (b ∷ before.rest))))
        (at z front (All-tail HasAlignment p (front ++ (a ∷ (b ∷ before.rest))) all))

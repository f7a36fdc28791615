-- The segments of the own layout: where each begins, and which pieces stand in it.
use Rattle.std.proofs.Common.{◌≡◌, ℕ, ◌+◌, ◌%◌, ◌^◌, ◌<◌, ◌≤◌, ◌⊎◌, inl, inr, Bool, true, false, cond, List, [], ◌∷◌, ◌++◌, refl, ap, arith}
use Rattle.std.specs.Prelude.{All, AllPairs, Any, Contains, filter, map}
use Rattle.std.specs.List.{list_any}
use Rattle.std.proofs.lemmas.Bool.{false≢true, ltb-true, ltb-false, or_cases, or_parts}
use Rattle.std.proofs.lemmas.List.Elements.{All-cons, All-nil, All-contains}
use Rattle.elf_model.specs.Link.Loading.{LoadedObject}
use Rattle.elf_model.specs.Own.OwnLayout.{any_placed, code_pieces, code_start, data_pieces, data_start, greatest_end, is_nonempty, loaded_start, own_read_only, own_segments, place_at, placed_end, placed_from, placed_has_bytes, read_only_start, segment}
use Rattle.elf_model.specs.Link.Pieces.{Piece}
use Rattle.elf_model.specs.Link.Placement.{Placed}
use Rattle.elf_model.specs.declared.records.ProgramHeader.{ProgramHeader}
use Rattle.own_link.proofs.Ends.{EndsBelow, greatest_end-below, greatest_end-holds}
use Rattle.elf_model.proofs.Finding.{Any-here, Any-there}

-- a segment: its rights, where it begins, where its pieces begin, whether it is there, and its pieces
pub record Part : Type 0 where
  pub rights : ℕ
  pub start : ℕ
  pub from : ℕ
  pub there : Bool
  pub placed : List Placed

-- the ends of its memory and of its file part
abbrev pub part_end : Part → ℕ
part_end p = greatest_end any_placed p.from p.placed

abbrev pub part_file_end : Part → ℕ
part_file_end p = greatest_end placed_has_bytes p.from p.placed

abbrev pub part_header : ℕ → Part → ProgramHeader
part_header base p = segment base p.rights p.start p.from p.placed

-- the headers of the segments that are there
abbrev pub segments_of : ℕ → List Part → List ProgramHeader
segments_of base parts = map (part_header base) (filter (λ p. p.there) parts)

-- one of pieces that stand in a run from an address on, at or behind its beginning
abbrev pub later_part : ℕ → ℕ → ℕ → List Piece → Part
later_part rights start first ps = record {
  rights = rights;
  start = start;
  from = start;
  there = list_any is_nonempty ps;
  placed = placed_from first ps;
}

abbrev pub own_parts : ℕ → List LoadedObject → List Part
own_parts base objects =
    record { rights = 4; start = base; from = read_only_start base objects; there = true; placed = own_read_only base objects }
    ∷ (later_part 5 (code_start base objects) (code_start base objects) (code_pieces objects)
    ∷ (later_part 6 (data_start base objects) (loaded_start base objects) (data_pieces objects) ∷ []))

chosen :
    (f : Part → ProgramHeader) (x w : Part) (b c : Bool) →
    cond b (f x ∷ []) [] ++ cond c (f w ∷ []) [] ≡ map f (cond b (x ∷ cond c (w ∷ []) []) (cond c (w ∷ []) []))
chosen f x w true true = refl
chosen f x w true false = refl
chosen f x w false true = refl
chosen f x w false false = refl

pub own_segments_are : (base : ℕ) (objects : List LoadedObject) → own_segments base objects ≡ segments_of base (own_parts base objects)
own_segments_are base objects =
    ap (λ (hs : List ProgramHeader). segment base 4 base (read_only_start base objects) (own_read_only base objects) ∷ hs)
    (chosen (part_header base) (later_part 5 (code_start base objects) (code_start base objects) (code_pieces objects))
    (later_part 6 (data_start base objects) (loaded_start base objects) (data_pieces objects))
    (list_any is_nonempty (code_pieces objects)) (list_any is_nonempty (data_pieces objects)))

-- what is known of a segment behind headers of a size
pub record IsGoodPart (base size : ℕ) (p : Part) : Type 0 where
  pub rights_low : 4 ≤ p.rights
  pub rights_high : p.rights ≤ 6
  pub page : p.start % 4096 ≡ 0
  pub low : base ≤ p.start
  pub begins : ((p.start ≡ base) × (p.from ≡ base + size)) ⊎ ((p.from ≡ p.start) × (base + size ≤ p.start))
  pub pieces_from : All (λ q. p.from ≤ q.at) p.placed
  pub none : p.there ≡ false → All (λ q. q.piece.size ≡ 0) p.placed
  pub some : p.there ≡ true → p.start < part_end p
  pub high : p.there ≡ true → part_end p ≤ 2 ^ 46
  pub code : p.rights ≡ 5 → All (λ q. placed_has_bytes q ≡ true) p.placed

-- of segments: each is good, each ends before the later ones begin, and the first holds the headers
pub record AreGoodParts (base size : ℕ) (parts : List Part) : Type 0 where
  pub each : All (IsGoodPart base size) parts
  pub rising : AllPairs (λ p q. part_end p ≤ q.start) parts
  pub first : Part
  pub others : List Part
  pub parts_are : parts ≡ first ∷ others
  pub first_there : first.there ≡ true
  pub first_start : first.start ≡ base
  pub first_from : first.from ≡ base + size

-- a nonempty piece is one where it is placed
some_piece : (ps : List Piece) (x : ℕ) → list_any is_nonempty ps ≡ true → Any (λ q. 0 < q.piece.size) (placed_from x ps)
some_piece [] x e = absurd (false≢true e)
some_piece (p ∷ ps) x e = by (or_cases (is_nonempty p) (list_any is_nonempty ps) e) (some_piece ps (placed_end (place_at x p)))
  where
    by :
        ((is_nonempty p ≡ true) ⊎ (list_any is_nonempty ps ≡ true)) →
        (list_any is_nonempty ps ≡ true → Any (λ q. 0 < q.piece.size) (placed_from (placed_end (place_at x p)) ps)) →
        Any (λ q. 0 < q.piece.size) (placed_from x (p ∷ ps))
    by (inl here) rest =
        Any-here (λ (q : Placed). 0 < q.piece.size) (place_at x p) (placed_from (placed_end (place_at x p)) ps) (ltb-true 0 p.size here)
    by (inr there) rest =
        Any-there (λ (q : Placed). 0 < q.piece.size) (place_at x p) (placed_from (placed_end (place_at x p)) ps) (rest there)

no_piece : (ps : List Piece) (x : ℕ) → list_any is_nonempty ps ≡ false → All (λ q. q.piece.size ≡ 0) (placed_from x ps)
no_piece [] x e = All-nil (λ (q : Placed). q.piece.size ≡ 0)
no_piece (p ∷ ps) x e =
    let n = or_parts (is_nonempty p) (list_any is_nonempty ps) e in
    All-cons (λ (q : Placed). q.piece.size ≡ 0) (place_at x p) (placed_from (placed_end (place_at x p)) ps)
    (let z = ltb-false 0 p.size n.0 in omega (arith, z)) (no_piece ps (placed_end (place_at x p)) n.1)

-- a segment of pieces in a run from an address on
module _ (base size rights start first : ℕ) (ps : List Piece) (low : 4 ≤ rights) (high : rights ≤ 6) (page : start % 4096 ≡ 0) (behind : base + size ≤ start) (from : All (λ q. start ≤ q.at) (placed_from first ps)) (ends : All (λ q. placed_end q ≤ 2 ^ 46) (placed_from first ps)) (code : rights ≡ 5 → All (λ q. placed_has_bytes q ≡ true) (placed_from first ps)) where
  -- the piece that is nonempty is inside
  later_some : list_any is_nonempty ps ≡ true → (start < greatest_end any_placed start (placed_from first ps)) × (start ≤ 2 ^ 46)
  later_some e =
      let a = some_piece ps first e in
      let c : Contains (placed_from first ps) a.1 = (a.0, a.2, a.3) in
      let f = All-contains (λ (q : Placed). start ≤ q.at) (placed_from first ps) a.1 from c in
      let t = All-contains (λ (q : Placed). placed_end q ≤ 2 ^ 46) (placed_from first ps) a.1 ends c in
      let g = All-contains (EndsBelow any_placed (greatest_end any_placed start (placed_from first ps))) (placed_from first ps) a.1
      (greatest_end-holds any_placed start (placed_from first ps) (greatest_end any_placed start (placed_from first ps)) (omega arith)) c refl a.4 in
      let s : 0 < a.1.piece.size = a.4 in
      (omega (arith, f, g, s), omega (arith, f, t, s))

  pub good_later : IsGoodPart base size (later_part rights start first ps)
  good_later = record {
    rights_low = low;
    rights_high = high;
    page = page;
    low = omega (arith, behind);
    begins = inr (refl, behind);
    pieces_from = from;
    none = no_piece ps first;
    some = λ e. (later_some e).0;
    high = λ e. greatest_end-below any_placed start (placed_from first ps) (2 ^ 46) (later_some e).1 ends;
    code = code;
  }

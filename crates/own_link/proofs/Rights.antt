-- Clause C6 holds of the own layout: the first segment begins at the base, and each nonempty thing lies whole
-- in a segment with its rights.
use Rattle.std.proofs.Common.{◌≡◌, ℕ, ◌+◌, ◌<◌, ◌≤◌, ◌⊎◌, ◌||◌, inl, inr, Bool, true, false, cond, not, List, [], ◌∷◌, ◌++◌, refl, sym, ◌∙◌, ap, subst, arith}
use Rattle.std.specs.Prelude.{All, Contains, Some, None}
use Rattle.std.specs.List.{list_any}
use Rattle.std.proofs.lemmas.Bool.{and_parts, false_from_ne_true, lt-ltb, not-true, or_left, or_right}
use Rattle.std.proofs.lemmas.List.Elements.{All-append, All-cons, All-contains, All-nil, Contains-append_left, Contains-append_right}
use Rattle.elf_model.specs.Link.Loading.{LoadedObject}
use Rattle.elf_model.specs.Image.MemoryImage.{Encloses}
use Rattle.elf_model.specs.Own.OwnLayout.{any_placed, code_pieces, code_start, data_pieces, data_start, greatest_end, is_code, is_nonempty, is_read_only, laid_out, loaded_start, own_code, own_data, own_loaded, own_read_only, own_segments, own_got, got_line_of, got_piece, placed_from, read_only_start, segment, segment_if}
use Rattle.elf_model.specs.Link.Pieces.{AreLawfulKinds, IsLawfulKind, Piece, is_executable, is_writable, piece_rights}
use Rattle.elf_model.specs.Link.Placement.{HasRights, LiesInSegment, Placed, got_things, range_of}
use Rattle.elf_model.specs.Link.Slots.{has_got}
use Rattle.elf_model.specs.declared.records.ProgramHeader.{ProgramHeader}
use Rattle.own_link.proofs.LoadedThings.{got_loaded, nonempty_of_all}
use Rattle.own_link.proofs.Ends.{EndsBelow, greatest_end-from, greatest_end-holds}
use Rattle.own_link.proofs.OwnGot.{got_nonempty}
use Rattle.elf_model.proofs.Finding.{Any-from_contains, Any-here}
use Rattle.elf_model.proofs.Listed.{All-from_contains, Contains-cons_cases, Contains-here, Contains-map, Contains-nil, Contains-there}
use Rattle.elf_model.proofs.OwnOrder.{code_not_writable, from_data, laid_out_lawful}
use Rattle.own_link.proofs.OwnThings.{own_headers_at, own_things_of}
use Rattle.elf_model.proofs.Places.{are_own_placed, at_own_address}
use Rattle.elf_model.proofs.Running.{placed_pieces}

-- the rights of the pieces of each segment
pub read_only_rights : (p : Piece) → is_read_only p ≡ true → piece_rights p ≡ 4
read_only_rights p r =
    let e = and_parts (not (is_writable p.header)) (not (is_executable p.header)) r in
    let w = not-true (is_writable p.header) e.0 in
    let x = not-true (is_executable p.header) e.1 in
    rw (x, w) refl

pub code_rights : (p : Piece) → is_code p ≡ true → piece_rights p ≡ 5
code_rights p x = rw x refl

pub data_rights : (p : Piece) → IsLawfulKind p.header → is_writable p.header ≡ true → piece_rights p ≡ 6
data_rights p lawful w =
    let x = false_from_ne_true (is_executable p.header) (λ e. code_not_writable p lawful e w) in
    rw (x, w) refl

-- a segment encloses each nonempty piece of its own that stands from its start on
pub segment_encloses :
    (base rights start from : ℕ) (qs : List Placed) (q : Placed) → Contains qs q → start ≤ q.at → 0 < q.piece.size →
    Encloses (segment base rights start from qs) q.at q.piece.size
segment_encloses base rights start from qs q c low some =
    let n : ℕ = greatest_end any_placed from qs in
    let ends = All-contains (EndsBelow any_placed n) qs q (greatest_end-holds any_placed from qs n (omega arith)) c in
    let end : q.at + q.piece.size ≤ n = ends refl some in
    (low, omega (arith, low, end))

-- a segment is there where a piece of it is nonempty
any_passes : {X : Type 0} (t : X → Bool) (xs : List X) (x : X) → Contains xs x → t x ≡ true → list_any t xs ≡ true
any_passes t [] x c e = absurd (Contains-nil x c)
any_passes {X} t (y ∷ ys) x c e = by (Contains-cons_cases y ys x c) (λ there. any_passes t ys x there e)
  where
    by : (y ≡ x) ⊎ Contains ys x → (Contains ys x → list_any t ys ≡ true) → (t y || list_any t ys) ≡ true
    by (inl same) rest = or_left (t y) (list_any t ys) (ap t same ∙ e)
    by (inr there) rest = or_right (t y) (list_any t ys) (rest there)

pub segment_there : (x : ℕ) (ps : List Piece) (h : ProgramHeader) (q : Placed) → Contains (placed_from x ps) q → 0 < q.piece.size → Contains (segment_if ps h) h
segment_there x ps h q c some =
    let piece : Contains ps q.piece =
    subst (λ (rs : List Piece). Contains rs q.piece) (placed_pieces x ps) (Contains-map (λ (r : Placed). r.piece) (placed_from x ps) q c) in
    let any : list_any is_nonempty ps ≡ true = any_passes is_nonempty ps q.piece piece (lt-ltb 0 q.piece.size some) in
    rw any (Contains-here [] h)

module _ (base : ℕ) (objects : List LoadedObject) (kinds : AreLawfulKinds objects) where
  -- the three segments
  abbrev pub read_only_segment : ProgramHeader
  read_only_segment = segment base 4 base (read_only_start base objects) (own_read_only base objects)

  abbrev pub code_segment : ProgramHeader
  code_segment = segment base 5 (code_start base objects) (code_start base objects) (own_code base objects)

  abbrev pub data_segment : ProgramHeader
  data_segment = segment base 6 (data_start base objects) (data_start base objects) (own_data base objects)

  abbrev LiesRight : Placed → Type 0
  LiesRight q = 0 < q.piece.size → LiesInSegment (own_segments base objects) (range_of q)

  in_segment :
      (h : ProgramHeader) (q : Placed) → Contains (own_segments base objects) h → Encloses h q.at q.piece.size →
      h.p_flags ≡ piece_rights q.piece → LiesInSegment (own_segments base objects) (range_of q)
  in_segment h q c inside rights =
      Any-from_contains (λ (g : ProgramHeader). Encloses g q.at q.piece.size × (g.p_flags ≡ piece_rights q.piece)) (own_segments base objects) h c (inside, rights)

  read_only_lie : All LiesRight (own_read_only base objects)
  read_only_lie =
      All-from_contains LiesRight (own_read_only base objects) (λ q c some.
      let places = are_own_placed base objects kinds in
      let at = places.read_only c.0 q c.1 in
      let here = subst (λ (r : Placed). (base ≤ r.at) × (is_read_only r.piece ≡ true)) c.2 (omega (arith, at.0), at.2) in
      in_segment read_only_segment q
      (Contains-here (segment_if (code_pieces objects) code_segment ++ segment_if (data_pieces objects) data_segment) read_only_segment)
      (segment_encloses base 4 base (read_only_start base objects) (own_read_only base objects) q c here.0 some)
      (sym (read_only_rights q.piece here.1)))

  code_lie : All LiesRight (own_code base objects)
  code_lie =
      All-from_contains LiesRight (own_code base objects) (λ q c some.
      let places = are_own_placed base objects kinds in
      let at = places.code c.0 q c.1 in
      let here = subst (λ (r : Placed). (code_start base objects ≤ r.at) × (is_code r.piece ≡ true)) c.2 (at.0, at.2) in
      in_segment code_segment q
      (Contains-there read_only_segment (segment_if (code_pieces objects) code_segment ++ segment_if (data_pieces objects) data_segment) code_segment
      (Contains-append_left (segment_if (code_pieces objects) code_segment) (segment_if (data_pieces objects) data_segment) code_segment
      (segment_there (code_start base objects) (code_pieces objects) code_segment q c some)))
      (segment_encloses base 5 (code_start base objects) (code_start base objects) (own_code base objects) q c here.0 some)
      (sym (code_rights q.piece here.1)))

  -- the kinds of the pieces in RW are lawful
  data_lawful : (q : Placed) → Contains (own_data base objects) q → IsLawfulKind q.piece.header
  data_lawful q c =
      let piece : Contains (data_pieces objects) q.piece =
      subst (λ (rs : List Piece). Contains rs q.piece) (placed_pieces (loaded_start base objects) (data_pieces objects))
      (Contains-map (λ (r : Placed). r.piece) (own_data base objects) q c) in
      All-contains (λ (p : Piece). IsLawfulKind p.header) (laid_out objects) q.piece (laid_out_lawful objects kinds) (from_data objects q.piece piece).0

  data_lie : All LiesRight (own_data base objects)
  data_lie =
      All-from_contains LiesRight (own_data base objects) (λ q c some.
      let places = are_own_placed base objects kinds in
      let at = places.data_ c.0 q c.1 in
      let here = subst (λ (r : Placed). (data_start base objects ≤ r.at) × (is_writable r.piece.header ≡ true)) c.2 (at.0, at.1) in
      in_segment data_segment q
      (Contains-there read_only_segment (segment_if (code_pieces objects) code_segment ++ segment_if (data_pieces objects) data_segment) data_segment
      (Contains-append_right (segment_if (code_pieces objects) code_segment) (segment_if (data_pieces objects) data_segment) data_segment
      (segment_there (loaded_start base objects) (data_pieces objects) data_segment q c some)))
      (segment_encloses base 6 (data_start base objects) (data_start base objects) (own_data base objects) q c here.0 some)
      (sym (data_rights q.piece (data_lawful q c) here.1)))

  pub own_places_lie : All LiesRight (own_loaded base objects)
  own_places_lie =
      All-append LiesRight (own_read_only base objects) (own_code base objects ++ own_data base objects) read_only_lie
      (All-append LiesRight (own_code base objects) (own_data base objects) code_lie data_lie)

  -- the headers lie at the front of the first segment
  headers_lie : LiesInSegment (own_segments base objects) (own_headers_at base objects)
  headers_lie =
      let from = greatest_end-from any_placed (read_only_start base objects) (own_read_only base objects) in
      Any-here (λ (h : ProgramHeader). Encloses h (own_headers_at base objects).at (own_headers_at base objects).size × (h.p_flags ≡ 4)) read_only_segment
      (segment_if (code_pieces objects) code_segment ++ segment_if (data_pieces objects) data_segment) ((omega arith, omega (arith, from)), refl)

  -- the GOT lies in a segment as other pieces that stand do
  got_lies :
      (b : Bool) → has_got objects ≡ b →
      All (LiesInSegment (own_segments base objects)) (got_things (cond b (Some (got_line_of base objects)) None))
  got_lies false none = All-nil (LiesInSegment (own_segments base objects))
  got_lies true there =
      let lies : LiesRight (at_own_address base objects (got_piece objects)) =
      All-contains LiesRight (own_loaded base objects) (at_own_address base objects (got_piece objects)) own_places_lie
      (got_loaded base objects kinds there) in
      All-cons (LiesInSegment (own_segments base objects)) (range_of (at_own_address base objects (got_piece objects))) []
      (lies (got_nonempty objects there)) (All-nil (LiesInSegment (own_segments base objects)))

  pub own_has_rights : HasRights base (own_segments base objects) (own_things_of base objects) (got_things (own_got base objects))
  own_has_rights = record {
    first = refl;
    nonempty =
        nonempty_of_all base objects kinds (LiesInSegment (own_segments base objects))
        (λ some. headers_lie)
        (All-from_contains (λ q. 0 < (range_of q).size → LiesInSegment (own_segments base objects) (range_of q)) (own_loaded base objects)
        (λ q c. All-contains LiesRight (own_loaded base objects) q own_places_lie c));
    got = got_lies (has_got objects) refl;
  }

-- Where the pieces of the own layout stand.
use Rattle.std.proofs.Common.{◌∙◌, ap, arith, inl, inr, refl, subst, sym, ◌++◌, ◌==◌}
use Rattle.std.specs.Prelude.{◌≡◌, ℕ, ◌+◌, ◌<◌, ◌≤◌, ◌⊎◌, Bool, true, false, cond, max, List, [], ◌∷◌, All, AllPairs, Contains, Option, Some, find, length, map, option_map, unwrap_or}
use Rattle.std.proofs.lemmas.Bool.{and_from, and_parts, eq-eqb, eqb-true}
use Rattle.std.proofs.lemmas.List.{map-append}
use Rattle.std.proofs.lemmas.List.Elements.{All-append, All-contains, All-weaker, Contains-append_left, Contains-append_right}
use Rattle.elf_model.specs.Link.Loading.{LoadedObject}
use Rattle.elf_model.specs.Own.OwnLayout.{laid_out, got_pieces, code_pieces, code_start, data_pieces, data_start, end_of, first_start, initial_pieces, is_code, is_read_only, loaded_start, own_address, own_code, own_data, own_headers_size, own_in_load_order, own_laid_out, own_loaded, own_placed, own_read_only, own_thread_rest, placed_end, placed_from, read_only_pieces, read_only_start, thread_rest_pieces, thread_rest_start, thread_start}
use Rattle.elf_model.specs.Link.Commons.{pieces}
use Rattle.elf_model.specs.Link.Pieces.{AreLawfulKinds, Piece, is_thread_piece, is_thread_zero, is_writable, kept_sections}
use Rattle.elf_model.specs.Link.Placement.{Placed, is_of_section}
use Rattle.elf_model.specs.Link.ThreadStorage.{alignment_of}
use Rattle.elf_model.proofs.Listed.{All-from_contains, All-unmap, Contains-from_map, Contains-map, find_only}
use Rattle.elf_model.proofs.OwnOrder.{from_code, from_data, from_initial, from_own_order, from_read_only, from_thread_rest, loaded_order, loaded_whole, own_order, own_order_other, thread_rest_bare, to_own_order}
use Rattle.elf_model.proofs.Pairs.{AllPairs-append, AllPairs-unmap, AllPairs-weaker, related}
use Rattle.elf_model.proofs.PieceNumbers.{AreOtherSections, IsKept, laid_out_kept}
use Rattle.elf_model.proofs.Running.{HasAlignment, IsAligned, IsBehind, end_of-ge, paged_up, rounded_up, placed_aligned, placed_ascending, placed_pieces, placed_within}

-- what is known of where the own pieces stand
pub record AreOwnPlaced (base : ℕ) (objects : List LoadedObject) : Type 0 where
  pub read_only : All (λ q. (base + own_headers_size objects ≤ q.at) × (placed_end q ≤ code_start base objects) × (is_read_only q.piece ≡ true)) (own_read_only base objects)
  pub code : All (λ q. (code_start base objects ≤ q.at) × (placed_end q ≤ data_start base objects) × (is_code q.piece ≡ true)) (own_code base objects)
  pub data_ : All (λ q. (data_start base objects ≤ q.at) × (is_writable q.piece.header ≡ true)) (own_data base objects)
  pub thread_rest : All (λ q. (thread_rest_start base objects ≤ q.at) × (is_thread_zero q.piece ≡ true)) (own_thread_rest base objects)
  pub apart : AllPairs (λ p q. (placed_end p ≤ q.at) ⊎ (placed_end q ≤ p.at)) (own_loaded base objects)
  pub whole : All (λ q. is_thread_zero q.piece ≡ false) (own_loaded base objects)
  pub listed : (q : Placed) → Contains (own_in_load_order base objects) q → Contains (own_placed base objects) q
  pub all : (q : Placed) → Contains (own_placed base objects) q → Contains (own_laid_out base objects) q
  pub kept : All (λ q. (0 < q.piece.align) × (length q.piece.bytes ≤ q.piece.size)) (own_placed base objects)
  pub starts : (base + own_headers_size objects ≤ code_start base objects) × (code_start base objects ≤ data_start base objects)

-- what holds of all pieces of a run holds of them where they are placed
pub All-placed : (P : Piece → Type 0) (x : ℕ) (ps : List Piece) → All P ps → All (λ q. P q.piece) (placed_from x ps)
All-placed P x ps all = All-unmap P (λ q. q.piece) (placed_from x ps) (subst (All P) (sym (placed_pieces x ps)) all)

-- all pieces have an alignment, so those of the own order have, and of its parts
pub All-ordered : (P : Piece → Type 0) (objects : List LoadedObject) → All P (laid_out objects) → All P (own_order objects)
All-ordered P objects all =
    All-from_contains P (own_order objects) (λ p c. All-contains P (laid_out objects) p all (from_own_order objects p c))

aligned_of : (objects : List LoadedObject) → All HasAlignment (laid_out objects)
aligned_of objects = All-weaker IsKept HasAlignment (λ p k. k.0) (laid_out objects) (laid_out_kept objects)

chosen_aligned : (objects : List LoadedObject) (ps : List Piece) → ((p : Piece) → Contains ps p → Contains (laid_out objects) p) → All HasAlignment ps
chosen_aligned objects ps from = All-from_contains HasAlignment ps (λ p c. All-contains HasAlignment (laid_out objects) p (aligned_of objects) (from p c))

pub read_only_aligned : (objects : List LoadedObject) → All HasAlignment (read_only_pieces objects)
read_only_aligned objects = chosen_aligned objects (read_only_pieces objects) (λ p c. (from_read_only objects p c).0)

pub code_aligned : (objects : List LoadedObject) → All HasAlignment (code_pieces objects)
code_aligned objects = chosen_aligned objects (code_pieces objects) (λ p c. (from_code objects p c).0)

pub data_aligned : (objects : List LoadedObject) → All HasAlignment (data_pieces objects)
data_aligned objects = chosen_aligned objects (data_pieces objects) (λ p c. (from_data objects p c).0)

pub initial_aligned : (objects : List LoadedObject) → All HasAlignment (initial_pieces objects)
initial_aligned objects = chosen_aligned objects (initial_pieces objects) (λ p c. (from_initial objects p c).0)

pub thread_rest_aligned : (objects : List LoadedObject) → All HasAlignment (thread_rest_pieces objects)
thread_rest_aligned objects = chosen_aligned objects (thread_rest_pieces objects) (λ p c. (from_thread_rest objects p c).0)

-- there is always a greatest alignment
pub some_alignment : (test : Piece → Bool) (ps : List Piece) → 0 < alignment_of test ps
some_alignment test [] = omega arith
some_alignment test (p ∷ ps) = by (test p) (some_alignment test ps)
  where
    by : (b : Bool) → 0 < alignment_of test ps → 0 < cond b (max p.align (alignment_of test ps)) (alignment_of test ps)
    by true rest = omega (arith, rest)
    by false rest = rest

-- the own places are those of the own order
pub own_loaded_pieces : (base : ℕ) (objects : List LoadedObject) → map (λ q. q.piece) (own_loaded base objects) ≡ loaded_order objects
own_loaded_pieces base objects =
    let f : Placed → Piece = λ q. q.piece in
    let r = placed_pieces (read_only_start base objects) (read_only_pieces objects) in
    let c = placed_pieces (code_start base objects) (code_pieces objects) in
    let d = placed_pieces (loaded_start base objects) (data_pieces objects) in
    let e : map f (own_code base objects ++ own_data base objects) ≡ code_pieces objects ++ data_pieces objects =
    map-append f (own_code base objects) (own_data base objects) ∙ (ap (λ (ps : List Piece). ps ++ map f (own_data base objects)) c ∙ ap (λ (ps : List Piece). code_pieces objects ++ ps) d) in
    map-append f (own_read_only base objects) (own_code base objects ++ own_data base objects)
    ∙ (ap (λ (ps : List Piece). ps ++ map f (own_code base objects ++ own_data base objects)) r
    ∙ ap (λ (ps : List Piece). read_only_pieces objects ++ ps) e)

pub own_placed_pieces : (base : ℕ) (objects : List LoadedObject) → map (λ q. q.piece) (own_placed base objects) ≡ own_order objects
own_placed_pieces base objects =
    let f : Placed → Piece = λ q. q.piece in
    let t = placed_pieces (thread_rest_start base objects) (thread_rest_pieces objects) in
    map-append f (own_loaded base objects) (own_thread_rest base objects)
    ∙ (ap (λ (ps : List Piece). ps ++ map f (own_thread_rest base objects)) (own_loaded_pieces base objects) ∙ ap (λ (ps : List Piece). loaded_order objects ++ ps) t)

module _ (base : ℕ) (objects : List LoadedObject) where
  abbrev pub InReadOnly : Placed → Type 0
  InReadOnly q = (base + own_headers_size objects ≤ q.at) × (placed_end q ≤ code_start base objects) × (is_read_only q.piece ≡ true)

  abbrev pub InCode : Placed → Type 0
  InCode q = (code_start base objects ≤ q.at) × (placed_end q ≤ data_start base objects) × (is_code q.piece ≡ true)

  abbrev pub InData : Placed → Type 0
  InData q = (data_start base objects ≤ q.at) × (is_writable q.piece.header ≡ true)

  abbrev pub InThreadRest : Placed → Type 0
  InThreadRest q = (thread_rest_start base objects ≤ q.at) × (is_thread_zero q.piece ≡ true)

  -- the thread-local pieces begin in RW, and so do its own
  pub thread_start_high : data_start base objects ≤ thread_start base objects
  thread_start_high =
      (rounded_up (alignment_of is_thread_piece (kept_sections objects)) (data_start base objects) (some_alignment is_thread_piece (kept_sections objects))).0

  pub loaded_start_high : data_start base objects ≤ loaded_start base objects
  loaded_start_high = by (initial_pieces objects)
    where
      by : (ps : List Piece) → data_start base objects ≤ first_start base objects ps
      by [] = omega arith
      by (p ∷ ps) = thread_start_high

  -- each segment's pieces stand from its start on, and before the next one's
  pub own_read_only_within : All InReadOnly (own_read_only base objects)
  own_read_only_within k d within =
      let x : ℕ = read_only_start base objects in
      let ps : List Piece = read_only_pieces objects in
      let w = placed_within x ps (read_only_aligned objects) k d within in
      let kind = All-placed (λ p. is_read_only p ≡ true) x ps (All-from_contains (λ p. is_read_only p ≡ true) ps (λ p c. (from_read_only objects p c).1)) k d within in
      let up = paged_up (end_of x ps) in
      (w.0, omega (arith, w, up), kind)

  pub own_code_within : All InCode (own_code base objects)
  own_code_within k d within =
      let x : ℕ = code_start base objects in
      let ps : List Piece = code_pieces objects in
      let w = placed_within x ps (code_aligned objects) k d within in
      let kind = All-placed (λ p. is_code p ≡ true) x ps (All-from_contains (λ p. is_code p ≡ true) ps (λ p c. (from_code objects p c).1)) k d within in
      let up = paged_up (end_of x ps) in
      (w.0, omega (arith, w, up), kind)

  pub own_data_within : All InData (own_data base objects)
  own_data_within k d within =
      let x : ℕ = loaded_start base objects in
      let ps : List Piece = data_pieces objects in
      let w = placed_within x ps (data_aligned objects) k d within in
      let high = loaded_start_high in
      let kind = All-placed (λ p. is_writable p.header ≡ true) x ps (All-from_contains (λ p. is_writable p.header ≡ true) ps (λ p c. (from_data objects p c).1)) k d within in
      (omega (arith, w, high), kind)

  pub own_thread_rest_within : All InThreadRest (own_thread_rest base objects)
  own_thread_rest_within k d within =
      let x : ℕ = thread_rest_start base objects in
      let ps : List Piece = thread_rest_pieces objects in
      let w = placed_within x ps (thread_rest_aligned objects) k d within in
      let kind = All-placed (λ p. is_thread_zero p ≡ true) x ps (All-from_contains (λ p. is_thread_zero p ≡ true) ps (thread_rest_bare objects)) k d within in
      (w.0, kind)

  pub own_starts : (base + own_headers_size objects ≤ code_start base objects) × (code_start base objects ≤ data_start base objects)
  own_starts =
      let x : ℕ = read_only_start base objects in
      let y : ℕ = code_start base objects in
      let r = end_of-ge x (read_only_pieces objects) (read_only_aligned objects) in
      let c = end_of-ge y (code_pieces objects) (code_aligned objects) in
      let up = paged_up (end_of x (read_only_pieces objects)) in
      let on = paged_up (end_of y (code_pieces objects)) in
      (omega (arith, r, up), omega (arith, c, on))

  -- each piece stands behind all that stand before it in the own order
  code_data_ascending : AllPairs IsBehind (own_code base objects ++ own_data base objects)
  code_data_ascending =
      AllPairs-append IsBehind (own_code base objects) (own_data base objects)
      (placed_ascending (code_start base objects) (code_pieces objects) (code_aligned objects))
      (placed_ascending (loaded_start base objects) (data_pieces objects) (data_aligned objects))
      (All-weaker InCode (λ p. All (IsBehind p) (own_data base objects))
      (λ p c. All-weaker InData (IsBehind p) (λ q d. omega (arith, c.1, d.0)) (own_data base objects) own_data_within)
      (own_code base objects) own_code_within)

  pub own_ascending : AllPairs IsBehind (own_loaded base objects)
  own_ascending =
      AllPairs-append IsBehind (own_read_only base objects) (own_code base objects ++ own_data base objects)
      (placed_ascending (read_only_start base objects) (read_only_pieces objects) (read_only_aligned objects))
      code_data_ascending
      (All-weaker InReadOnly (λ p. All (IsBehind p) (own_code base objects ++ own_data base objects))
      (λ p r. All-append (IsBehind p) (own_code base objects) (own_data base objects)
      (All-weaker InCode (IsBehind p) (λ q c. omega (arith, r.1, c.0)) (own_code base objects) own_code_within)
      (All-weaker InData (IsBehind p) (λ q d. omega (arith, r.1, d.0, own_starts.1)) (own_data base objects) own_data_within))
      (own_read_only base objects) own_read_only_within)

  own_kept : All (λ q. IsKept q.piece) (own_placed base objects)
  own_kept =
      All-unmap IsKept (λ q. q.piece) (own_placed base objects)
      (subst (All IsKept) (sym (own_placed_pieces base objects)) (All-ordered IsKept objects (laid_out_kept objects)))

  pub own_aligned : All IsAligned (own_placed base objects)
  own_aligned =
      All-append IsAligned (own_loaded base objects) (own_thread_rest base objects)
      (All-append IsAligned (own_read_only base objects) (own_code base objects ++ own_data base objects)
      (placed_aligned (read_only_start base objects) (read_only_pieces objects) (read_only_aligned objects))
      (All-append IsAligned (own_code base objects) (own_data base objects)
      (placed_aligned (code_start base objects) (code_pieces objects) (code_aligned objects))
      (placed_aligned (loaded_start base objects) (data_pieces objects) (data_aligned objects))))
      (placed_aligned (thread_rest_start base objects) (thread_rest_pieces objects) (thread_rest_aligned objects))

  -- a piece at its own address
  abbrev pub at_own_address : Piece → Placed
  at_own_address p = record { at = own_address base objects p; piece = p }

  -- the own address of a piece is that of its own place: no other one is of its section
  module _ (kinds : AreLawfulKinds objects) where
    own_placed_other : AllPairs (λ p q. AreOtherSections p.piece q.piece) (own_placed base objects)
    own_placed_other =
        AllPairs-unmap AreOtherSections (λ q. q.piece) (own_placed base objects)
        (subst (AllPairs AreOtherSections) (sym (own_placed_pieces base objects)) (own_order_other objects kinds))

    same_place : (p q : Placed) → Contains (own_placed base objects) p → Contains (own_placed base objects) q → p.piece.object ≡ q.piece.object → p.piece.section ≡ q.piece.section → p ≡ q
    same_place p q c d e f = by (related (λ p q. AreOtherSections p.piece q.piece) (own_placed base objects) p q own_placed_other c d)
      where
        by : (p ≡ q) ⊎ (AreOtherSections p.piece q.piece ⊎ AreOtherSections q.piece p.piece) → p ≡ q
        by (inl same) = same
        by (inr (inl other)) = absurd (other e f)
        by (inr (inr other)) = absurd (other (sym e) (sym f))

    own_place_found : (q : Placed) → Contains (own_placed base objects) q → find (is_of_section q.piece.object q.piece.section) (own_placed base objects) ≡ Some q
    own_place_found q c =
        find_only (is_of_section q.piece.object q.piece.section) (own_placed base objects) q c
        (and_from (q.piece.object == q.piece.object) (q.piece.section == q.piece.section)
        (eq-eqb q.piece.object q.piece.object refl) (eq-eqb q.piece.section q.piece.section refl))
        (λ p d passes.
        let both = and_parts (p.piece.object == q.piece.object) (p.piece.section == q.piece.section) passes in
        same_place p q d c (eqb-true p.piece.object q.piece.object both.0) (eqb-true p.piece.section q.piece.section both.1))

    pub own_place_is : (q : Placed) → Contains (own_placed base objects) q → at_own_address q.piece ≡ q
    own_place_is q c =
        let found = own_place_found q c in
        let at : own_address base objects q.piece ≡ q.at = ap (λ (o : Option Placed). unwrap_or (option_map (λ (r : Placed). r.at) o) 0) found in
        λ i. record { at = at i; piece = q.piece }

    laid_listed : (q : Placed) → Contains (own_laid_out base objects) q → Contains (own_placed base objects) q
    laid_listed q c =
        let of_piece = Contains-from_map at_own_address (laid_out objects) q c in
        let ordered = to_own_order objects of_piece.of of_piece.there in
        let placed = Contains-from_map (λ (r : Placed). r.piece) (own_placed base objects) of_piece.of
        (subst (λ (ps : List Piece). Contains ps of_piece.of) (sym (own_placed_pieces base objects)) ordered) in
        let is : placed.of ≡ q = sym (own_place_is placed.of placed.there) ∙ (ap at_own_address placed.is ∙ of_piece.is) in
        subst (Contains (own_placed base objects)) is placed.there

    pub own_listed : (q : Placed) → Contains (own_in_load_order base objects) q → Contains (own_placed base objects) q
    own_listed q c =
        laid_listed q
        (subst (λ (qs : List Placed). Contains qs q) (sym (map-append at_own_address (pieces objects) (got_pieces objects)))
        (Contains-append_left (own_in_load_order base objects) (map at_own_address (got_pieces objects)) q c))

    -- the GOT stands at its own address
    pub got_listed : (p : Piece) → Contains (got_pieces objects) p → Contains (own_placed base objects) (at_own_address p)
    got_listed p c =
        laid_listed (at_own_address p)
        (Contains-map at_own_address (laid_out objects) p (Contains-append_right (pieces objects) (got_pieces objects) p c))

    pub own_all : (q : Placed) → Contains (own_placed base objects) q → Contains (own_laid_out base objects) q
    own_all q c =
        let ordered : Contains (own_order objects) q.piece =
        subst (λ (ps : List Piece). Contains ps q.piece) (own_placed_pieces base objects) (Contains-map (λ (r : Placed). r.piece) (own_placed base objects) q c) in
        subst (Contains (own_laid_out base objects)) (own_place_is q c)
        (Contains-map at_own_address (laid_out objects) q.piece (from_own_order objects q.piece ordered))

    own_whole : All (λ q. is_thread_zero q.piece ≡ false) (own_loaded base objects)
    own_whole =
        All-from_contains (λ q. is_thread_zero q.piece ≡ false) (own_loaded base objects) (λ q c.
        loaded_whole objects kinds q.piece
        (subst (λ (ps : List Piece). Contains ps q.piece) (own_loaded_pieces base objects) (Contains-map (λ (r : Placed). r.piece) (own_loaded base objects) q c)))

    pub are_own_placed : AreOwnPlaced base objects
    are_own_placed = record {
      read_only = own_read_only_within;
      code = own_code_within;
      data_ = own_data_within;
      thread_rest = own_thread_rest_within;
      apart = AllPairs-weaker IsBehind (λ p q. (placed_end p ≤ q.at) ⊎ (placed_end q ≤ p.at)) (λ p q behind. inl behind) (own_loaded base objects) own_ascending;
      whole = own_whole;
      listed = own_listed;
      all = own_all;
      kept = own_kept;
      starts = own_starts;
    }

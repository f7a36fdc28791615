-- Clause C5 holds of the own layout: its things are aligned, lie between the base and 2 ^ 46, and are apart;
-- neighbours in an output section are near each other.
use Rattle.std.proofs.Common.{◌≡◌, ℕ, ◌+◌, ◌%◌, ◌<◌, ◌≤◌, ◌⊎◌, inl, inr, Bool, true, false, cond, List, ◌++◌, length, get_or, map, sym, ◌∙◌, ap, subst, arith}
use Rattle.std.specs.Prelude.{◌^◌, All, AllPairs, Contains, filter}
use Rattle.std.proofs.lemmas.List.{get_or-map, length-map}
use Rattle.std.proofs.lemmas.List.Elements.{All-append, All-cons, All-contains, All-map, All-weaker, Contains-append_cases, Contains-append_left, Contains-append_right, Contains-get_or}
use Rattle.std.proofs.lemmas.List.Kept.{AllPairs-cons, AllPairs-filter}
use Rattle.elf_model.specs.Link.Loading.{LoadedObject}
use Rattle.elf_model.specs.Link.ArrayOrder.{in_array_order, piece_rank, placed_in_array_order, placed_rank}
use Rattle.elf_model.specs.Link.Commons.{pieces}
use Rattle.elf_model.specs.Own.OwnLayout.{IsNotTooLarge, code_pieces, code_start, data_pieces, initial_pieces, loaded_start, own_code, own_data, own_headers_size, own_in_load_order, own_loaded, own_placed, own_places, own_read_only, own_thread_rest, placed_end, read_only_pieces, read_only_start, thread_rest_pieces, thread_rest_start, thread_start}
use Rattle.elf_model.specs.Link.Pieces.{AreLawfulKinds, Piece, is_thread_piece, is_thread_zero, kept_sections, load_size, same_output}
use Rattle.elf_model.specs.Link.Placement.{AreApart, IsNear, IsNext, IsPlaced, IsWithin, Placed, is_thread_place, range_of, thing_of, thread_ranges}
use Rattle.elf_model.specs.declared.thing.Thing.{Thing}
use Rattle.elf_model.proofs.ArrayOrder.{Contains-from_by_rank, map_by_rank}
use Rattle.elf_model.proofs.Listed.{All-from_contains, Contains-from_filter}
use Rattle.elf_model.proofs.Neighbours.{StandsBefore, neighbours_passing}
use Rattle.elf_model.proofs.OwnOrder.{neighbours_in_part}
use Rattle.own_link.proofs.OwnThings.{own_headers_at, own_stood, own_things_of, stood_listed, stood_other, stood_pieces}
use Rattle.elf_model.proofs.Pairs.{AllPairs-map, related}
use Rattle.elf_model.proofs.PieceNumbers.{AreOtherSections, pieces_other}
use Rattle.elf_model.proofs.Places.{InThreadRest, are_own_placed, at_own_address, code_aligned, data_aligned, initial_aligned, own_aligned, own_ascending, own_listed, own_place_is, own_thread_rest_within, read_only_aligned, thread_rest_aligned, thread_start_high}
use Rattle.elf_model.proofs.Running.{ArePlacedNear, IsAligned, IsBehind, end_of-ge, placed_near}
use Rattle.elf_model.proofs.SameOutput.{same_output-refl}
use Rattle.elf_model.proofs.ThreadPlaces.{own_threads, thread_in_threads, threads_ascending}

-- a thing that ends where another begins or before is apart from it
behind_apart : (s t : Thing) → s.at + s.size ≤ t.at → AreApart s t
behind_apart s t behind a c d = omega (arith, behind, c, d)

ahead_apart : (s t : Thing) → t.at + t.size ≤ s.at → AreApart s t
ahead_apart s t behind a c d = omega (arith, behind, c, d)

-- a piece takes up no more memory than its size
pub load_size-less : (p : Piece) → load_size p ≤ p.size
load_size-less p = by (is_thread_zero p)
  where
    by : (b : Bool) → cond b 0 p.size ≤ p.size
    by true = omega arith
    by false = omega arith

module _ (base : ℕ) (objects : List LoadedObject) (kinds : AreLawfulKinds objects) where
  -- what holds of all own places holds of them in load order
  pub All-loaded : (P : Placed → Type 0) → All P (own_placed base objects) → All P (own_stood base objects)
  All-loaded P all =
      All-from_contains P (own_stood base objects)
      (λ q c. All-contains P (own_placed base objects) q all (stood_listed base objects kinds q c))

  -- every piece stands behind the headers
  abbrev IsBehindHeaders : Placed → Type 0
  IsBehindHeaders q = base + own_headers_size objects ≤ q.at

  own_behind_headers : All IsBehindHeaders (own_placed base objects)
  own_behind_headers =
      let places = are_own_placed base objects kinds in
      All-append IsBehindHeaders (own_loaded base objects) (own_thread_rest base objects)
      (All-append IsBehindHeaders (own_read_only base objects) (own_code base objects ++ own_data base objects)
      (λ k d within. (places.read_only k d within).0)
      (All-append IsBehindHeaders (own_code base objects) (own_data base objects)
      (λ k d within. let low = (places.code k d within).0 in omega (arith, low, places.starts))
      (λ k d within. let low = (places.data_ k d within).0 in omega (arith, low, places.starts))))
      (λ k d within.
      let low = (places.thread_rest k d within).0 in
      let high = thread_start_high base objects in
      let behind = end_of-ge (thread_start base objects) (initial_pieces objects) (initial_aligned objects) in
      omega (arith, low, high, behind, places.starts))

  -- what is no piece that memory has a place for covers nothing
  bare_apart : (p q : Placed) → is_thread_zero p.piece ≡ true → AreApart (thing_of p) (thing_of q)
  bare_apart p q bare a c d = let none : load_size p.piece ≡ 0 = ap (λ b. cond b 0 p.piece.size) bare in omega (arith, none, c)

  apart_bare : (p q : Placed) → is_thread_zero q.piece ≡ true → AreApart (thing_of p) (thing_of q)
  apart_bare p q bare a c d = let none : load_size q.piece ≡ 0 = ap (λ b. cond b 0 q.piece.size) bare in omega (arith, none, d)

  rest_bare : (q : Placed) → Contains (own_thread_rest base objects) q → is_thread_zero q.piece ≡ true
  rest_bare q c =
      (All-contains (InThreadRest base objects) (own_thread_rest base objects) q (own_thread_rest_within base objects) c).1

  -- no two pieces share an address
  loaded_apart : AllPairs (λ p q. AreApart (thing_of p) (thing_of q)) (own_stood base objects)
  loaded_apart i j d order within =
      of_parts
      (Contains-append_cases (own_loaded base objects) (own_thread_rest base objects) p (there i d (omega (arith, order, within))))
      (Contains-append_cases (own_loaded base objects) (own_thread_rest base objects) q (there j d within))
    where
      p : Placed
      p = get_or (own_stood base objects) i d

      q : Placed
      q = get_or (own_stood base objects) j d

      there : (k : ℕ) (d : Placed) → k < length (own_stood base objects) → Contains (own_placed base objects) (get_or (own_stood base objects) k d)
      there k d low = stood_listed base objects kinds (get_or (own_stood base objects) k d) (Contains-get_or (own_stood base objects) k d low)

      other : AreOtherSections p.piece q.piece
      other =
          AllPairs-map (λ r s. AreOtherSections r.piece s.piece) (at_own_address base objects) (stood_pieces objects) (stood_other objects)
          i j d order within

      by : (p ≡ q) ⊎ (IsBehind p q ⊎ IsBehind q p) → AreApart (thing_of p) (thing_of q)
      by (inl same) = absurd (other (ap (λ (r : Placed). r.piece.object) same) (ap (λ (r : Placed). r.piece.section) same))
      by (inr (inl behind)) = behind_apart (thing_of p) (thing_of q) (let less = load_size-less p.piece in omega (arith, behind, less))
      by (inr (inr behind)) = ahead_apart (thing_of p) (thing_of q) (let less = load_size-less q.piece in omega (arith, behind, less))

      of_parts :
          Contains (own_loaded base objects) p ⊎ Contains (own_thread_rest base objects) p →
          Contains (own_loaded base objects) q ⊎ Contains (own_thread_rest base objects) q → AreApart (thing_of p) (thing_of q)
      of_parts (inr rest) other_part = bare_apart p q (rest_bare p rest)
      of_parts (inl loaded) (inr rest) = apart_bare p q (rest_bare q rest)
      of_parts (inl loaded) (inl with_it) = by (related IsBehind (own_loaded base objects) p q (own_ascending base objects) loaded with_it)

  own_apart : AllPairs AreApart (own_things_of base objects)
  own_apart =
      AllPairs-cons AreApart (own_headers_at base objects) (map thing_of (own_stood base objects))
      (All-map (AreApart (own_headers_at base objects)) thing_of (own_stood base objects)
      (All-weaker IsBehindHeaders (λ q. AreApart (own_headers_at base objects) (thing_of q))
      (λ q behind. behind_apart (own_headers_at base objects) (thing_of q) behind) (own_stood base objects)
      (All-loaded IsBehindHeaders own_behind_headers)))
      (AllPairs-map AreApart thing_of (own_stood base objects) loaded_apart)

  -- all things are aligned, and lie between the base and 2 ^ 46
  own_things_aligned : All (λ t. t.at % t.align ≡ 0) (own_things_of base objects)
  own_things_aligned =
      All-cons (λ (t : Thing). t.at % t.align ≡ 0) (own_headers_at base objects) (map thing_of (own_stood base objects)) (omega arith)
      (All-map (λ (t : Thing). t.at % t.align ≡ 0) thing_of (own_stood base objects) (All-loaded IsAligned (own_aligned base objects)))

  own_things_within : IsNotTooLarge base objects → All (IsWithin base) (own_things_of base objects)
  own_things_within fits =
      All-cons (IsWithin base) (own_headers_at base objects) (map thing_of (own_stood base objects)) (omega arith, fits.headers)
      (All-map (IsWithin base) thing_of (own_stood base objects)
      (All-loaded (λ q. IsWithin base (thing_of q))
      (All-from_contains (λ q. IsWithin base (thing_of q)) (own_placed base objects) (λ q c.
      let low = All-contains IsBehindHeaders (own_placed base objects) q own_behind_headers c in
      let high = All-contains (λ q. placed_end q ≤ 2 ^ 46) (own_placed base objects) q fits.ends c in
      let less = load_size-less q.piece in
      (omega (arith, low), omega (arith, high, less))))))

  -- the thread-local pieces lie there with their whole ranges, and apart from one another
  abbrev own_thread_places : List Placed
  own_thread_places = filter is_thread_place (own_in_load_order base objects)

  thread_place : (q : Placed) → Contains own_thread_places q → Contains (own_placed base objects) q × (is_thread_piece q.piece ≡ true)
  thread_place q c =
      let f = Contains-from_filter is_thread_place (own_in_load_order base objects) q c in
      (own_listed base objects kinds q f.0, f.1)

  own_threads_within : IsNotTooLarge base objects → All (IsWithin base) (thread_ranges (own_in_load_order base objects))
  own_threads_within fits =
      All-map (IsWithin base) range_of own_thread_places
      (All-from_contains (λ q. IsWithin base (range_of q)) own_thread_places (λ q c.
      let there = (thread_place q c).0 in
      let low = All-contains IsBehindHeaders (own_placed base objects) q own_behind_headers there in
      let high = All-contains (λ q. placed_end q ≤ 2 ^ 46) (own_placed base objects) q fits.ends there in
      (omega (arith, low), omega (arith, high))))

  threads_other : AllPairs (λ p q. AreOtherSections p.piece q.piece) own_thread_places
  threads_other =
      AllPairs-filter (λ p q. AreOtherSections p.piece q.piece) is_thread_place (own_in_load_order base objects)
      (AllPairs-map (λ r s. AreOtherSections r.piece s.piece) (at_own_address base objects) (pieces objects) (pieces_other objects))

  own_threads_apart : AllPairs AreApart (thread_ranges (own_in_load_order base objects))
  own_threads_apart =
      AllPairs-map AreApart range_of own_thread_places (λ i j d order within.
      let p : Placed = get_or own_thread_places i d in
      let q : Placed = get_or own_thread_places j d in
      let in_p = thread_place p (Contains-get_or own_thread_places i d (omega (arith, order, within))) in
      let in_q = thread_place q (Contains-get_or own_thread_places j d within) in
      by p q (threads_other i j d order within)
      (related IsBehind (own_threads base objects) p q (threads_ascending base objects)
      (thread_in_threads base objects kinds p in_p.0 in_p.1) (thread_in_threads base objects kinds q in_q.0 in_q.1)))
    where
      by : (p q : Placed) → AreOtherSections p.piece q.piece → (p ≡ q) ⊎ (IsBehind p q ⊎ IsBehind q p) → AreApart (range_of p) (range_of q)
      by p q other (inl same) = absurd (other (ap (λ (r : Placed). r.piece.object) same) (ap (λ (r : Placed). r.piece.section) same))
      by p q other (inr (inl behind)) = behind_apart (range_of p) (range_of q) behind
      by p q other (inr (inr behind)) = ahead_apart (range_of p) (range_of q) behind

  -- the kept sections at their own addresses, in the order of their output sections; neighbours are near each other
  abbrev kept_order : List Piece
  kept_order = in_array_order (kept_sections objects)

  abbrev own_kept : List Placed
  own_kept = own_places base objects kept_order

  kept_in_order : placed_in_array_order (own_places base objects (kept_sections objects)) ≡ own_kept
  kept_in_order = sym (map_by_rank placed_rank (at_own_address base objects) (kept_sections objects))

  abbrev AreNear : Piece → Piece → Type 0
  AreNear a b = IsNear (at_own_address base objects a) (at_own_address base objects b)

  near_in : (a b : Piece) (qs : List Placed) → ((q : Placed) → Contains qs q → Contains (own_placed base objects) q) → ArePlacedNear qs a b → AreNear a b
  near_in a b qs into n =
      let f = own_place_is base objects kinds n.first (into n.first n.first_there) in
      let s = own_place_is base objects kinds n.second (into n.second n.second_there) in
      let first : n.first ≡ at_own_address base objects a = sym f ∙ ap (at_own_address base objects) n.first_is in
      let second : n.second ≡ at_own_address base objects b = sym s ∙ ap (at_own_address base objects) n.second_is in
      subst (IsNear (at_own_address base objects a)) second (subst (λ (q : Placed). IsNear q n.second) first n.near)

  near_by_order : (a b : Piece) → Contains (kept_sections objects) a → StandsBefore (filter (same_output a) kept_order) a b → AreNear a b
  near_by_order a b c before =
      neighbours_in_part objects a b (AreNear a b) c before (record {
        read_only = λ s.
            near_in a b (own_read_only base objects) (λ q there.
            loaded q (Contains-append_left (own_read_only base objects) (own_code base objects ++ own_data base objects) q there))
            (placed_near (read_only_start base objects) (read_only_pieces objects) a b (read_only_aligned objects) s);
        code = λ s.
            near_in a b (own_code base objects) (λ q there.
            loaded q (Contains-append_right (own_read_only base objects) (own_code base objects ++ own_data base objects) q
            (Contains-append_left (own_code base objects) (own_data base objects) q there)))
            (placed_near (code_start base objects) (code_pieces objects) a b (code_aligned objects) s);
        data_ = λ s.
            near_in a b (own_data base objects) (λ q there.
            loaded q (Contains-append_right (own_read_only base objects) (own_code base objects ++ own_data base objects) q
            (Contains-append_right (own_code base objects) (own_data base objects) q there)))
            (placed_near (loaded_start base objects) (data_pieces objects) a b (data_aligned objects) s);
        thread_rest = λ s.
            near_in a b (own_thread_rest base objects) (λ q there. Contains-append_right (own_loaded base objects) (own_thread_rest base objects) q there)
            (placed_near (thread_rest_start base objects) (thread_rest_pieces objects) a b (thread_rest_aligned objects) s);
      })
    where
      loaded : (q : Placed) → Contains (own_loaded base objects) q → Contains (own_placed base objects) q
      loaded q there = Contains-append_left (own_loaded base objects) (own_thread_rest base objects) q there

  own_near : (i j : ℕ) (d : Placed) → IsNext own_kept i j d → IsNear (get_or own_kept i d) (get_or own_kept j d)
  own_near i j d next =
      let n = length-map kept_order (at_own_address base objects) in
      let in_j : j < length kept_order = omega (arith, n, next.1) in
      let in_i : i < length kept_order = omega (arith, in_j, next.0) in
      let same : same_output (at i) (at j) ≡ true = subst (λ (q : Placed). same_output (at i) q.piece ≡ true) (is j in_j)
      (subst (λ (q : Placed). same_output q.piece (get_or own_kept j d).piece ≡ true) (is i in_i) next.2) in
      let before = neighbours_passing (same_output (at i)) kept_order i j d.piece next.0 in_j (same_output-refl (at i)) same
      (λ k above below.
      subst (λ (q : Placed). same_output (at i) q.piece ≡ false) (is k (omega (arith, below, in_j)))
      (subst (λ (q : Placed). same_output q.piece (get_or own_kept k d).piece ≡ false) (is i in_i) (next.3 k above below))) in
      let near : AreNear (at i) (at j) = near_by_order (at i) (at j) (Contains-from_by_rank piece_rank (kept_sections objects) (at i) (Contains-get_or kept_order i d.piece in_i)) before in
      subst (IsNear (get_or own_kept i d)) (sym (is j in_j))
      (subst (λ (q : Placed). IsNear q (at_own_address base objects (at j))) (sym (is i in_i)) near)
    where
      at : ℕ → Piece
      at k = get_or kept_order k d.piece

      is : (k : ℕ) → k < length kept_order → get_or own_kept k d ≡ at_own_address base objects (at k)
      is k low = get_or-map (at_own_address base objects) kept_order k d.piece d low

  pub own_is_apart :
      IsNotTooLarge base objects →
      IsPlaced base (own_things_of base objects) (thread_ranges (own_in_load_order base objects))
      (placed_in_array_order (own_places base objects (kept_sections objects)))
  own_is_apart fits = record {
    aligned = own_things_aligned;
    within = own_things_within fits;
    apart = own_apart;
    threads_within = own_threads_within fits;
    threads_apart = own_threads_apart;
    near =
        subst (λ (qs : List Placed). (i j : ℕ) (d : Placed) → IsNext qs i j d → IsNear (get_or qs i d) (get_or qs j d))
        (sym kept_in_order) own_near;
  }

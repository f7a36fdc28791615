-- Clause C8 holds of the own layout: PT_TLS says where the thread-local pieces are, those with bytes come first, nothing
-- else stands among them, and one PT_LOAD holds their initial bytes.
use Rattle.std.proofs.Common.{◌≡◌, ◌⊎◌, inl, inr, ℕ, ◌+◌, ◌<◌, ◌≤◌, ◌&&◌, Bool, true, false, not, cond, max, List, [], ◌∷◌, ◌++◌, Option, Some, None, map, refl, sym, ◌∙◌, ap, subst, arith}
use Rattle.std.specs.Prelude.{All, Contains, filter, nat_lt, option_map}
use Rattle.std.specs.Option.{option_map_or}
use Rattle.std.proofs.lemmas.Bool.{and_parts, cases_lt, false≢true, ltb-true, not-true}
use Rattle.std.proofs.lemmas.List.Elements.{All-append, All-contains, All-cons, All-nil, Contains-append_cases, Contains-append_left, Contains-append_right}
use Rattle.elf_model.specs.Link.LinkerValues.{end_of_pieces, start_of_pieces}
use Rattle.elf_model.specs.Link.Loading.{AreObjects, LoadedObject}
use Rattle.elf_model.specs.Image.MemoryImage.{Encloses, loads, thread_blocks}
use Rattle.elf_model.specs.Own.OwnLayout.{IsNotTooLarge, code_pieces, code_start, data_pieces, data_start, end_of, first_start, got_line_of, got_piece, initial_pieces, loaded_start, own_code, own_data, own_got, own_in_load_order, own_loaded, own_read_only, own_segments, own_thread_rest, placed_end, segment_if, thread_rest_start, thread_start}
use Rattle.elf_model.specs.Link.Pieces.{AreLawfulKinds, Piece, has_bytes, is_nobits, is_thread_piece, is_thread_zero}
use Rattle.elf_model.specs.Link.Placement.{Placed, got_things, is_thread_place, thing_of}
use Rattle.elf_model.specs.Image.RightLink.{HoldsInitial, IsClearOf, IsThreadBlockRight, Subject, other_things, placed_of, thread_data_end}
use Rattle.elf_model.specs.Link.Slots.{has_got}
use Rattle.elf_model.specs.Link.ThreadStorage.{block_from, is_some_thread_data, is_thread_data, thread_header, thread_headers}
use Rattle.elf_model.specs.declared.link_map.GotLine.{GotLine}
use Rattle.elf_model.specs.declared.records.ProgramHeader.{ProgramHeader}
use Rattle.elf_model.specs.declared.thing.Thing.{Thing}
use Rattle.elf_model.proofs.Finding.{Any-from_contains}
use Rattle.elf_model.proofs.Listed.{All-from_contains, All-parts, Contains-from_filter, Contains-from_map, Contains-nil, Contains-there}
use Rattle.elf_model.proofs.OwnOrder.{from_initial, initial_is, plain_data}
use Rattle.elf_model.proofs.PieceBounds.{EndsBy, end_by}
use Rattle.elf_model.proofs.Places.{are_own_placed, at_own_address, data_aligned, own_listed, thread_start_high}
use Rattle.elf_model.proofs.Running.{HasAlignment, StandsWithin, placed_within}
use Rattle.elf_model.proofs.ThreadPlaces.{initial_within, own_data_parts, own_initial, own_plain, run_piece, thread_in_initial}
use Rattle.own_link.proofs.ApartThings.{load_size-less}
use Rattle.own_link.proofs.LoadedThings.{got_loaded, loaded_whole_place}
use Rattle.own_link.proofs.Rights.{code_segment, data_segment, read_only_segment, segment_encloses, segment_there}
use Rattle.own_link.proofs.ThreadHeaders.{start_of_block}

-- an end that is above 0 is that of a piece that passes
record EndsAt (test : Piece → Bool) (n : ℕ) (qs : List Placed) : Type 0 where
  of : Placed
  there : Contains qs of
  passes : test of.piece ≡ true
  end : placed_end of ≡ n

end_reached : (test : Piece → Bool) (qs : List Placed) → 0 < end_of_pieces test qs → EndsAt test (end_of_pieces test qs) qs
end_reached test [] some = absurd (omega (arith, some))
end_reached test (q ∷ qs) some = by (test q.piece) refl some (end_reached test qs)
  where
    behind : (n : ℕ) → EndsAt test n qs → EndsAt test n (q ∷ qs)
    behind n e = record { of = e.of; there = Contains-there q qs e.of e.there; passes = e.passes; end = e.end }

    by :
        (b : Bool) → test q.piece ≡ b →
        0 < cond b (max (q.at + q.piece.size) (end_of_pieces test qs)) (end_of_pieces test qs) →
        (0 < end_of_pieces test qs → EndsAt test (end_of_pieces test qs) qs) →
        EndsAt test (cond b (max (q.at + q.piece.size) (end_of_pieces test qs)) (end_of_pieces test qs)) (q ∷ qs)
    by false e more rest = behind (end_of_pieces test qs) (rest more)
    by true e more rest = which (cases_lt (q.at + q.piece.size) (end_of_pieces test qs))
      where
        which :
            (q.at + q.piece.size < end_of_pieces test qs) ⊎ (end_of_pieces test qs ≤ q.at + q.piece.size) →
            EndsAt test (max (q.at + q.piece.size) (end_of_pieces test qs)) (q ∷ qs)
        which (inl less) =
            let e : end_of_pieces test qs ≡ max (q.at + q.piece.size) (end_of_pieces test qs) = omega (arith, less) in
            subst (λ n. EndsAt test n (q ∷ qs)) e (behind (end_of_pieces test qs) (rest (omega (arith, less))))
        which (inr above) = record {
          of = q;
          there = (0, omega arith, refl);
          passes = e;
          end = omega (arith, above);
        }

module _ (base : ℕ) (objects : List LoadedObject) (kinds : AreLawfulKinds objects) where
  abbrev placed : List Placed
  placed = own_in_load_order base objects

  -- thread-local pieces with bytes stand in their run, and those without behind it
  data_in_initial : (q : Placed) → Contains placed q → is_thread_data q.piece ≡ true → Contains (own_initial base objects) q
  data_in_initial q c d =
      let parts = and_parts (is_thread_piece q.piece) (has_bytes q.piece) d in
      thread_in_initial base objects kinds q
      (loaded_whole_place base objects kinds q (own_listed base objects kinds q c) (with_bytes (is_thread_piece q.piece) (is_nobits q.piece.header) parts.1)) parts.0
    where
      with_bytes : (t b : Bool) → not b ≡ true → (t && b) ≡ false
      with_bytes true b e = not-true b e
      with_bytes false b e = refl

  data_ends_low : end_of_pieces is_thread_data placed ≤ thread_rest_start base objects
  data_ends_low =
      end_by is_thread_data (thread_rest_start base objects) placed
      (All-from_contains (EndsBy is_thread_data (thread_rest_start base objects)) placed (λ q c d.
      (All-contains (StandsWithin (thread_start base objects) (thread_rest_start base objects)) (own_initial base objects) q (initial_within base objects)
      (data_in_initial q c d)).1))

  zero_behind : (q : Placed) → Contains placed q → is_thread_zero q.piece ≡ true → end_of_pieces is_thread_data placed ≤ q.at
  zero_behind q c z = by (Contains-append_cases (own_loaded base objects) (own_thread_rest base objects) q (own_listed base objects kinds q c))
    where
      by : Contains (own_loaded base objects) q ⊎ Contains (own_thread_rest base objects) q → end_of_pieces is_thread_data placed ≤ q.at
      by (inl loaded) =
          let whole = All-contains (λ (r : Placed). is_thread_zero r.piece ≡ false) (own_loaded base objects) q (are_own_placed base objects kinds).whole loaded in
          absurd (false≢true (sym whole ∙ z))
      by (inr rest) =
          let low = (All-contains (λ (r : Placed). (thread_rest_start base objects ≤ r.at) × (is_thread_zero r.piece ≡ true)) (own_thread_rest base objects) q
          (are_own_placed base objects kinds).thread_rest rest).0 in
          let e = data_ends_low in
          omega (arith, low, e)

  -- another piece has no address among them
  abbrev IsClear : Thing → Type 0
  IsClear t = IsClearOf (thread_start base objects) (end_of_pieces is_thread_data placed) t

  ends_before : (q : Placed) → placed_end q ≤ thread_start base objects → IsClear (thing_of q)
  ends_before q low a from below covers = let less = load_size-less q.piece in omega (arith, low, from, covers, less)

  begins_behind : (q : Placed) → end_of_pieces is_thread_data placed ≤ q.at → IsClear (thing_of q)
  begins_behind q low a from below covers = omega (arith, low, below, covers)

  -- where those of RW that aren't thread-local stand
  plain_behind : (ps : List Piece) → initial_pieces objects ≡ ps → (q : Placed) → Contains (own_plain base objects) q → end_of_pieces is_thread_data placed ≤ q.at
  plain_behind [] none q c =
      let all = end_by is_thread_data 0 placed
      (All-from_contains (EndsBy is_thread_data 0) placed (λ r d e.
      absurd (Contains-nil r.piece (subst (λ (ps : List Piece). Contains ps r.piece) none
      (run_piece (thread_start base objects) (initial_pieces objects) r (data_in_initial r d e)))))) in
      omega (arith, all)
  plain_behind (p ∷ ps) some q c =
      let start : loaded_start base objects ≡ thread_start base objects = ap (first_start base objects) some in
      let aligned : All HasAlignment (plain_data objects) = (All-parts HasAlignment (initial_pieces objects) (plain_data objects) (data_aligned objects)).1 in
      let from : ℕ = end_of (loaded_start base objects) (initial_pieces objects) in
      let w = All-contains (StandsWithin from (end_of from (plain_data objects))) (own_plain base objects) q (placed_within from (plain_data objects) aligned) c in
      let same : from ≡ thread_rest_start base objects = ap (λ n. end_of n (initial_pieces objects)) start in
      let e = data_ends_low in
      omega (arith, w, same, e)

  other_clear : (q : Placed) → Contains (own_loaded base objects) q → is_thread_piece q.piece ≡ false → IsClear (thing_of q)
  other_clear q c other = by (Contains-append_cases (own_read_only base objects) (own_code base objects ++ own_data base objects) q c)
    where
      high : data_start base objects ≤ thread_start base objects
      high = thread_start_high base objects

      in_data : Contains (own_initial base objects) q ⊎ Contains (own_plain base objects) q → IsClear (thing_of q)
      in_data (inl i) =
          let is = (initial_is q.piece (from_initial objects q.piece (run_piece (thread_start base objects) (initial_pieces objects) q i)).1).1 in
          absurd (false≢true (sym other ∙ is))
      in_data (inr p) = begins_behind q (plain_behind (initial_pieces objects) refl q p)

      in_rest : Contains (own_code base objects) q ⊎ Contains (own_data base objects) q → IsClear (thing_of q)
      in_rest (inl code) =
          let w = (are_own_placed base objects kinds).code code.0 q code.1 in
          let e : placed_end q ≤ data_start base objects = subst (λ (r : Placed). placed_end r ≤ data_start base objects) code.2 w.1 in
          ends_before q (omega (arith, e, high))
      in_rest (inr d) = in_data (Contains-append_cases (own_initial base objects) (own_plain base objects) q (subst (λ (qs : List Placed). Contains qs q) (own_data_parts base objects) d))

      by : Contains (own_read_only base objects) q ⊎ Contains (own_code base objects ++ own_data base objects) q → IsClear (thing_of q)
      by (inl r) =
          let w = (are_own_placed base objects kinds).read_only r.0 q r.1 in
          let e : placed_end q ≤ code_start base objects = subst (λ (s : Placed). placed_end s ≤ code_start base objects) r.2 w.1 in
          let starts = (are_own_placed base objects kinds).starts in
          ends_before q (omega (arith, e, high, starts))
      by (inr rest) = in_rest (Contains-append_cases (own_code base objects) (own_data base objects) q rest)

  -- the GOT, and the pieces that aren't thread-local
  got_clear : (b : Bool) → has_got objects ≡ b → All IsClear (got_things (cond b (Some (got_line_of base objects)) None))
  got_clear false none = All-nil IsClear
  got_clear true there =
      All-cons IsClear (thing_of (at_own_address base objects (got_piece objects))) []
      (other_clear (at_own_address base objects (got_piece objects)) (got_loaded base objects kinds there) refl) (All-nil IsClear)

  others_clear : All IsClear (got_things (own_got base objects) ++ map thing_of (filter (λ q. not (is_thread_place q)) placed))
  others_clear =
      All-append IsClear (got_things (own_got base objects)) (map thing_of (filter (λ q. not (is_thread_place q)) placed))
      (got_clear (has_got objects) refl)
      (All-from_contains IsClear (map thing_of (filter (λ q. not (is_thread_place q)) placed)) (λ t c.
      let i = Contains-from_map thing_of (filter (λ q. not (is_thread_place q)) placed) t c in
      let f = Contains-from_filter (λ q. not (is_thread_place q)) placed i.of i.there in
      let other = not-true (is_thread_piece i.of.piece) f.1 in
      subst IsClear i.is
      (other_clear i.of
      (loaded_whole_place base objects kinds i.of (own_listed base objects kinds i.of f.0) (ap (λ b. b && is_nobits i.of.piece.header) other)) other)))

  -- the initial bytes lie in the segment that may be written
  module _ (are : AreObjects objects) where
    held_by :
        (a : ℕ) → a ≡ thread_start base objects → HoldsInitial (own_segments base objects) (thread_header base placed (block_from placed a))
    held_by a start some =
        let e = end_reached is_some_thread_data placed (omega (arith, some)) in
        let parts = and_parts (is_thread_data e.of.piece) (nat_lt 0 e.of.piece.size) e.passes in
        let nonempty = ltb-true 0 e.of.piece.size parts.1 in
        let i = data_in_initial e.of e.there parts.0 in
        let listed : Contains (own_data base objects) e.of =
        subst (λ (qs : List Placed). Contains qs e.of) (sym (own_data_parts base objects)) (Contains-append_left (own_initial base objects) (own_plain base objects) e.of i) in
        let within = All-contains (StandsWithin (thread_start base objects) (thread_rest_start base objects)) (own_initial base objects) e.of (initial_within base objects) i in
        let high = thread_start_high base objects in
        let encloses = segment_encloses base 6 (data_start base objects) (data_start base objects) (own_data base objects) e.of listed (omega (arith, within, high)) nonempty in
        let there : Contains (own_segments base objects) (data_segment base objects kinds) =
        Contains-there (read_only_segment base objects kinds)
        (segment_if (code_pieces objects) (code_segment base objects kinds) ++ segment_if (data_pieces objects) (data_segment base objects kinds))
        (data_segment base objects kinds)
        (Contains-append_right (segment_if (code_pieces objects) (code_segment base objects kinds)) (segment_if (data_pieces objects) (data_segment base objects kinds))
        (data_segment base objects kinds)
        (segment_there (loaded_start base objects) (data_pieces objects) (data_segment base objects kinds) e.of listed nonempty)) in
        let end = e.end in
        Any-from_contains (λ g. Encloses g (thread_header base placed (block_from placed a)).p_vaddr (thread_header base placed (block_from placed a)).p_filesz)
        (own_segments base objects) (data_segment base objects kinds) there
        (omega (arith, start, high), omega (arith, encloses, end, some))

    -- what holds of the block's header where there is one holds of all
    of_headers :
        (P : ProgramHeader → Type 0) →
        ((a : ℕ) → a ≡ thread_start base objects → P (thread_header base placed (block_from placed a))) → All P (thread_headers base placed)
    of_headers P each = by (start_of_pieces is_thread_piece placed) refl
      where
        by :
            (o : Option ℕ) → start_of_pieces is_thread_piece placed ≡ o →
            All P (option_map_or (λ b. thread_header base placed b ∷ []) (option_map (block_from placed) o) [])
        by None e = All-nil P
        by (Some a) e = All-cons P (thread_header base placed (block_from placed a)) [] (each a (start_of_block base objects kinds are a e)) (All-nil P)

    pub own_thread_block :
        IsNotTooLarge base objects → (s : Subject) → placed_of s ≡ placed → loads s.image ≡ own_segments base objects →
        thread_blocks s.image ≡ thread_headers base placed → s.plan.base ≡ base → s.map.got ≡ own_got base objects → IsThreadBlockRight s
    own_thread_block fits s placed_is loads_are blocks_are base_is got_is = record {
      headers =
          blocks_are
          ∙ (ap (λ (n : ℕ). thread_headers n placed) (sym base_is)
          ∙ ap (λ (qs : List Placed). thread_headers s.plan.base qs) (sym placed_is));
      before =
          subst (λ (qs : List Placed). All (λ q. is_thread_zero q.piece ≡ true → end_of_pieces is_thread_data qs ≤ q.at) qs) (sym placed_is)
          (All-from_contains (λ q. is_thread_zero q.piece ≡ true → end_of_pieces is_thread_data placed ≤ q.at) placed zero_behind);
      clear =
          subst (All (λ h. All (IsClearOf h.p_vaddr (thread_data_end s)) (other_things s))) (sym blocks_are)
          (of_headers (λ h. All (IsClearOf h.p_vaddr (thread_data_end s)) (other_things s)) (λ a start.
          subst (λ (n : ℕ). All (IsClearOf n (thread_data_end s)) (other_things s)) (sym start)
          (subst (λ (qs : List Placed). All (IsClearOf (thread_start base objects) (end_of_pieces is_thread_data qs)) (got_things s.map.got ++ map thing_of (filter (λ q. not (is_thread_place q)) qs))) (sym placed_is)
          (subst (λ (g : Option GotLine). All IsClear (got_things g ++ map thing_of (filter (λ q. not (is_thread_place q)) placed))) (sym got_is)
          others_clear))));
      held =
          subst (λ (hs : List ProgramHeader). All (HoldsInitial hs) (thread_blocks s.image)) (sym loads_are)
          (subst (All (HoldsInitial (own_segments base objects))) (sym blocks_are) (of_headers (HoldsInitial (own_segments base objects)) held_by));
    }

-- The thread block of the own layout: it begins where the thread-local pieces do, and its header is good.
use Rattle.std.proofs.Common.{◌≡◌, ◌⊎◌, inl, inr, ℕ, ◌+◌, ◌*◌, ◌/◌, ◌%◌, ◌^◌, ◌<◌, ◌≤◌, Bool, true, false, cond, max, List, [], ◌∷◌, ◌++◌, Option, Some, None, map, refl, sym, ◌∙◌, ap, subst, arith, rules, div-add-mod'}
use Rattle.std.specs.Prelude.{All, Contains, nat_lt, option_map}
use Rattle.std.specs.Int.{is_power_of_two}
use Rattle.std.specs.Option.{option_map_or}
use Rattle.std.proofs.lemmas.Bool.{and_parts, cases_lt, false≢true}
use Rattle.std.proofs.lemmas.List.{map-append}
use Rattle.std.proofs.lemmas.List.Elements.{All-contains, All-head, All-nil, All-cons, All-tail, All-weaker, Contains-append_cases, Contains-append_left, Contains-append_right}
use Rattle.std.proofs.Math.Nat.{mul-le-mul_right, mul-mod_left}
use Rattle.std.proofs.lemmas.Nat.{mul-mod_second}
use Rattle.elf_model.specs.Link.Commons.{block_pieces, pieces}
use Rattle.elf_model.specs.Link.LinkerValues.{end_of_pieces, start_of_pieces}
use Rattle.elf_model.specs.Link.Loading.{AreObjects, LoadedObject}
use Rattle.elf_model.specs.Own.OwnLayout.{IsNotTooLarge, data_start, end_of, got_pieces, initial_pieces, is_initial, is_thread_rest, own_in_load_order, own_loaded, own_places, own_placed, own_thread_rest, place_at, placed_end, placed_from, thread_rest_pieces, thread_rest_start, thread_start}
use Rattle.elf_model.specs.Link.Pieces.{AreLawfulKinds, Piece, has_bytes, is_thread_piece, kept_sections}
use Rattle.elf_model.specs.Link.Placement.{Placed, round_up}
use Rattle.elf_model.specs.Link.ThreadStorage.{alignment_of, block_from, is_some_thread_data, is_thread_data, thread_header, thread_headers}
use Rattle.elf_model.proofs.Blocks.{block_pieces-each}
use Rattle.elf_model.proofs.Listed.{All-from_contains, Contains-from_map, Contains-here, Contains-nil}
use Rattle.elf_model.proofs.OwnOrder.{from_chosen_kept, from_initial, from_thread_rest, initial_is, thread_rest_is}
use Rattle.elf_model.proofs.PieceAlignments.{IsLawfulAlignment, kept_lawful}
use Rattle.elf_model.proofs.PieceBounds.{BeginsFrom, EndsBy, IsStart, all_end, end_by, start_is}
use Rattle.elf_model.proofs.PieceNumbers.{got_pieces-each}
use Rattle.elf_model.proofs.Places.{at_own_address, initial_aligned, own_all, own_listed, own_starts, some_alignment, thread_rest_aligned, thread_start_high}
use Rattle.elf_model.proofs.PowersOfTwo.{lower_divides, power_test}
use Rattle.elf_model.proofs.Running.{HasAlignment, StandsWithin, end_of-ge, rounded_up}
use Rattle.elf_model.proofs.ThreadPlaces.{initial_loaded, initial_within, own_initial, own_threads, thread_in_threads, thread_rest_within, threads_run}
use Rattle.own_link.proofs.ImageRead.{AreThreadHeaders, IsThreadHeader}

-- Alignments.

greatest_lawful : (t : Piece → Bool) (ps : List Piece) → All (λ p. IsLawfulAlignment p.align) ps → IsLawfulAlignment (alignment_of t ps)
greatest_lawful t [] all = ((0, refl), omega arith)
greatest_lawful t (p ∷ ps) all =
    by (t p) (All-head (λ (q : Piece). IsLawfulAlignment q.align) p ps all)
    (greatest_lawful t ps (All-tail (λ (q : Piece). IsLawfulAlignment q.align) p ps all)) (cases_lt p.align (alignment_of t ps))
  where
    by :
        (b : Bool) → IsLawfulAlignment p.align → IsLawfulAlignment (alignment_of t ps) →
        (p.align < alignment_of t ps) ⊎ (alignment_of t ps ≤ p.align) → IsLawfulAlignment (cond b (max p.align (alignment_of t ps)) (alignment_of t ps))
    by false here rest order = rest
    by true here rest (inl less) = let e : alignment_of t ps ≡ max p.align (alignment_of t ps) = omega (arith, less) in subst IsLawfulAlignment e rest
    by true here rest (inr more) = let e : p.align ≡ max p.align (alignment_of t ps) = omega (arith, more) in subst IsLawfulAlignment e here

greatest_above : (t : Piece → Bool) (ps : List Piece) → All (λ p. t p ≡ true → p.align ≤ alignment_of t ps) ps
greatest_above t [] = All-nil (λ p. t p ≡ true → p.align ≤ 1)
greatest_above t (p ∷ ps) = by (t p) refl (greatest_above t ps)
  where
    by :
        (b : Bool) → t p ≡ b → All (λ q. t q ≡ true → q.align ≤ alignment_of t ps) ps →
        All (λ q. t q ≡ true → q.align ≤ cond b (max p.align (alignment_of t ps)) (alignment_of t ps)) (p ∷ ps)
    by true e rest =
        let n : ℕ = max p.align (alignment_of t ps) in
        All-cons (λ q. t q ≡ true → q.align ≤ n) p ps (λ f. omega arith)
        (All-weaker (λ q. t q ≡ true → q.align ≤ alignment_of t ps) (λ q. t q ≡ true → q.align ≤ n) (λ q low f. let l = low f in omega (arith, l)) ps rest)
    by false e rest = All-cons (λ q. t q ≡ true → q.align ≤ alignment_of t ps) p ps (λ f. absurd (false≢true (sym e ∙ f))) rest

-- pieces that don't pass add nothing
greatest_front : (t : Piece → Bool) (ps qs : List Piece) → All (λ q. t q ≡ false) qs → alignment_of t (ps ++ qs) ≡ alignment_of t ps
greatest_front t [] [] none = refl
greatest_front t [] (q ∷ qs) none =
    ap (λ b. cond b (max q.align (alignment_of t qs)) (alignment_of t qs)) (All-head (λ (r : Piece). t r ≡ false) q qs none)
    ∙ greatest_front t [] qs (All-tail (λ (r : Piece). t r ≡ false) q qs none)
greatest_front t (p ∷ ps) qs none = ap (λ n. cond (t p) (max p.align n) n) (greatest_front t ps qs none)

-- a multiple of a multiple
mod_chain : (x a b : ℕ) → b % a ≡ 0 → x % b ≡ 0 → x % a ≡ 0
mod_chain x a b e f =
    let d = div-add-mod' x b in
    let whole : x ≡ x / b * b = omega (arith, d, f) in
    let none : x / b * 0 ≡ 0 * a = search rules in
    ap (λ n. n % a) whole
    ∙ (sym (mul-mod_second (x / b) b a) ∙ (ap (λ n. (x / b * n) % a) e ∙ (ap (λ n. n % a) none ∙ mul-mod_left 0 a)))

-- a multiple stays where it is
round_up-multiple : (a x : ℕ) → 0 < a → x % a ≡ 0 → round_up a x ≡ x
round_up-multiple a x some multiple =
    let r = rounded_up a x some in
    let d = div-add-mod' x a in
    let e = div-add-mod' (round_up a x) a in
    by (cases_lt (x / a) (round_up a x / a)) r d e
  where
    by :
        (x / a < round_up a x / a) ⊎ (round_up a x / a ≤ x / a) →
        (x ≤ round_up a x) × (round_up a x < x + a) × (round_up a x % a ≡ 0) →
        x / a * a + x % a ≡ x → round_up a x / a * a + round_up a x % a ≡ round_up a x → round_up a x ≡ x
    by (inl more) r d e =
        let n : (x / a + 1) * a ≡ x / a * a + a = search rules in
        let step : (x / a + 1) * a ≤ round_up a x / a * a = mul-le-mul_right a (omega (arith, more)) in
        absurd (omega (arith, n, step, r, d, e, multiple))
    by (inr less) r d e =
        let step : round_up a x / a * a ≤ x / a * a = mul-le-mul_right a less in
        omega (arith, step, r, d, e, multiple)

-- which test is weaker than another one gives no lower end
pub end_more_pass : (s t : Piece → Bool) → ((p : Piece) → s p ≡ true → t p ≡ true) → (qs : List Placed) → end_of_pieces s qs ≤ end_of_pieces t qs
end_more_pass s t weaker [] = omega arith
end_more_pass s t weaker (q ∷ qs) = by (s q.piece) (t q.piece) refl refl (end_more_pass s t weaker qs)
  where
    by :
        (b c : Bool) → s q.piece ≡ b → t q.piece ≡ c → end_of_pieces s qs ≤ end_of_pieces t qs →
        cond b (max (q.at + q.piece.size) (end_of_pieces s qs)) (end_of_pieces s qs)
        ≤ cond c (max (q.at + q.piece.size) (end_of_pieces t qs)) (end_of_pieces t qs)
    by true true e f rest = omega (arith, rest)
    by true false e f rest = absurd (false≢true (sym f ∙ weaker q.piece e))
    by false true e f rest = omega (arith, rest)
    by false false e f rest = rest

module _ (base : ℕ) (objects : List LoadedObject) where
  abbrev pub placed : List Placed
  placed = own_in_load_order base objects

  abbrev greatest : ℕ
  greatest = alignment_of is_thread_piece (kept_sections objects)

  pub placed_pieces_are : map (λ (q : Placed). q.piece) placed ≡ pieces objects
  placed_pieces_are = pieces_again (pieces objects)
    where
      pieces_again : (ps : List Piece) → map (λ (q : Placed). q.piece) (own_places base objects ps) ≡ ps
      pieces_again [] = refl
      pieces_again (p ∷ ps) = ap (λ (qs : List Piece). p ∷ qs) (pieces_again ps)

  -- its alignment is the greatest of the kept sections that are thread-local
  alignment_is : alignment_of is_thread_piece (map (λ (q : Placed). q.piece) placed) ≡ greatest
  alignment_is =
      ap (alignment_of is_thread_piece) placed_pieces_are
      ∙ greatest_front is_thread_piece (kept_sections objects) (block_pieces objects)
      (block_pieces-each objects (λ p. is_thread_piece p ≡ false) (λ k s c. refl))

  greatest_power : AreObjects objects → IsLawfulAlignment greatest
  greatest_power are = greatest_lawful is_thread_piece (kept_sections objects) (kept_lawful objects are)

  thread_start_multiple : thread_start base objects % greatest ≡ 0
  thread_start_multiple = (rounded_up greatest (data_start base objects) (some_alignment is_thread_piece (kept_sections objects))).2

  -- the first thread-local piece stands at the beginning, a multiple of its own alignment too
  stands_first :
      AreObjects objects → (p : Piece) → Contains (kept_sections objects) p → is_thread_piece p ≡ true → 0 < p.align →
      (place_at (thread_start base objects) p).at ≡ thread_start base objects
  stands_first are p c t some =
      let own = All-contains (λ (q : Piece). IsLawfulAlignment q.align) (kept_sections objects) p (kept_lawful objects are) c in
      let low = All-contains (λ (q : Piece). is_thread_piece q ≡ true → q.align ≤ greatest) (kept_sections objects) p (greatest_above is_thread_piece (kept_sections objects)) c t in
      round_up-multiple p.align (thread_start base objects) some
      (mod_chain (thread_start base objects) p.align greatest (lower_divides p.align greatest own.0 (greatest_power are).0 low) thread_start_multiple)

  -- The thread-local places: they stand in their run, and those of the run are among the pieces.
  module _ (kinds : AreLawfulKinds objects) where
    thread_run : (q : Placed) → Contains placed q → is_thread_piece q.piece ≡ true → Contains (own_threads base objects) q
    thread_run q c t = thread_in_threads base objects kinds q (own_listed base objects kinds q c) t

    run_placed : (q : Placed) → Contains (own_placed base objects) q → is_thread_piece q.piece ≡ true → Contains placed q
    run_placed q c t =
        by (Contains-append_cases placed (map (at_own_address base objects) (got_pieces objects)) q
        (subst (λ (qs : List Placed). Contains qs q) (map-append (at_own_address base objects) (pieces objects) (got_pieces objects))
        (own_all base objects kinds q c)))
      where
        by : Contains placed q ⊎ Contains (map (at_own_address base objects) (got_pieces objects)) q → Contains placed q
        by (inl there) = there
        by (inr got) =
            let i = Contains-from_map (at_own_address base objects) (got_pieces objects) q got in
            let none = All-contains (λ (p : Piece). is_thread_piece p ≡ false) (got_pieces objects) i.of
            (got_pieces-each objects (λ p. is_thread_piece p ≡ false) refl) i.there in
            absurd (false≢true (sym none ∙ (ap (λ (r : Placed). is_thread_piece r.piece) i.is ∙ t)))

    -- they stand at or behind the beginning
    run_behind : (q : Placed) → Contains (own_threads base objects) q → thread_start base objects ≤ q.at
    run_behind q c = by (Contains-append_cases (own_initial base objects) (own_thread_rest base objects) q c)
      where
        by : Contains (own_initial base objects) q ⊎ Contains (own_thread_rest base objects) q → thread_start base objects ≤ q.at
        by (inl i) = (All-contains (StandsWithin (thread_start base objects) (thread_rest_start base objects)) (own_initial base objects) q (initial_within base objects) i).0
        by (inr r) =
            let w = All-contains (StandsWithin (thread_rest_start base objects) (end_of (thread_rest_start base objects) (thread_rest_pieces objects))) (own_thread_rest base objects) q (thread_rest_within base objects) r in
            let low = end_of-ge (thread_start base objects) (initial_pieces objects) (initial_aligned objects) in
            omega (arith, w, low)

    -- the first of them stands at the beginning
    module _ (are : AreObjects objects) where
      run_kept : (p : Piece) → Contains (initial_pieces objects ++ thread_rest_pieces objects) p → Contains (kept_sections objects) p × (is_thread_piece p ≡ true) × (0 < p.align)
      run_kept p c = by (Contains-append_cases (initial_pieces objects) (thread_rest_pieces objects) p c)
        where
          by : Contains (initial_pieces objects) p ⊎ Contains (thread_rest_pieces objects) p → Contains (kept_sections objects) p × (is_thread_piece p ≡ true) × (0 < p.align)
          by (inl i) = (
            (from_chosen_kept is_initial objects p i).0,
            (initial_is p (from_initial objects p i).1).1,
            All-contains HasAlignment (initial_pieces objects) p (initial_aligned objects) i,
          )
          by (inr r) = (
            (from_chosen_kept is_thread_rest objects p r).0,
            (thread_rest_is p (from_thread_rest objects p r).1).1,
            All-contains HasAlignment (thread_rest_pieces objects) p (thread_rest_aligned objects) r,
          )

      first_of_run :
          (ps : List Piece) → ((p : Piece) → Contains ps p → Contains (kept_sections objects) p × (is_thread_piece p ≡ true) × (0 < p.align)) →
          (q : Placed) → Contains (placed_from (thread_start base objects) ps) q →
          (f : Placed) × Contains (placed_from (thread_start base objects) ps) f × (is_thread_piece f.piece ≡ true) × (f.at ≡ thread_start base objects)
      first_of_run [] each q c = absurd (Contains-nil q c)
      first_of_run (p ∷ ps) each q c =
          let is = each p (Contains-here ps p) in
          let first : Placed = place_at (thread_start base objects) p in
          (first, Contains-here (placed_from (placed_end first) ps) first, is.1, stands_first are p is.0 is.1 is.2)

      -- so the least address of a thread-local piece is the beginning
      pub start_of_block : (a : ℕ) → start_of_pieces is_thread_piece placed ≡ Some a → a ≡ thread_start base objects
      start_of_block a found =
          let s : IsStart is_thread_piece (Some a) placed = subst (λ (o : Option ℕ). IsStart is_thread_piece o placed) found (start_is is_thread_piece placed) in
          let one = s.1 in
          let in_run = thread_run one.0 one.1 one.2 in
          let behind = run_behind one.0 in_run in
          let f = first_of_run (initial_pieces objects ++ thread_rest_pieces objects) run_kept one.0
          (subst (λ (qs : List Placed). Contains qs one.0) (sym (threads_run base objects)) in_run) in
          let first_placed = run_placed f.0 (run_in_placed f.0 (subst (λ (qs : List Placed). Contains qs f.0) (threads_run base objects) f.1)) f.2 in
          let low = All-contains (BeginsFrom is_thread_piece a) placed f.0 s.0 first_placed f.2 in
          let at = f.3 in
          let same = one.3 in
          omega (arith, behind, low, at, same)
        where
          run_in_placed : (q : Placed) → Contains (own_threads base objects) q → Contains (own_placed base objects) q
          run_in_placed q c = by (Contains-append_cases (own_initial base objects) (own_thread_rest base objects) q c)
            where
              by : Contains (own_initial base objects) q ⊎ Contains (own_thread_rest base objects) q → Contains (own_placed base objects) q
              by (inl i) = Contains-append_left (own_loaded base objects) (own_thread_rest base objects) q (initial_loaded base objects q i)
              by (inr r) = Contains-append_right (own_loaded base objects) (own_thread_rest base objects) q r

      -- The header of the block is good.
      module _ (fits : IsNotTooLarge base objects) where
        ends_low : (test : Piece → Bool) → end_of_pieces test placed ≤ 2 ^ 46
        ends_low test =
            end_by test (2 ^ 46) placed
            (All-from_contains (EndsBy test (2 ^ 46)) placed (λ q c e.
            All-contains (λ r. placed_end r ≤ 2 ^ 46) (own_placed base objects) q fits.ends (own_listed base objects kinds q c)))

        good_header : (a : ℕ) → start_of_pieces is_thread_piece placed ≡ Some a → IsThreadHeader base (thread_header base placed (block_from placed a))
        good_header a found =
            let start = start_of_block a found in
            let high = thread_start_high base objects in
            let starts = own_starts base objects in
            let power = greatest_power are in
            let same = alignment_is in
            let s : IsStart is_thread_piece (Some a) placed = subst (λ (o : Option ℕ). IsStart is_thread_piece o placed) found (start_is is_thread_piece placed) in
            let one = s.1 in
            let one_end = All-contains (EndsBy is_thread_piece (end_of_pieces is_thread_piece placed)) placed one.0 (all_end is_thread_piece placed) one.1 one.2 in
            let one_at = one.3 in
            let e = ends_low is_thread_piece in
            let less = end_more_pass is_some_thread_data is_thread_piece (λ p t. (and_parts (is_thread_piece p) (has_bytes p) (and_parts (is_thread_data p) (nat_lt 0 p.size) t).0).0) placed in
            record {
              type_ = refl;
              good = record {
                rights = refl;
                physical = refl;
                offset = omega (arith, start, high, starts);
                align = ap is_power_of_two same ∙ (power_test greatest (is_power_of_two greatest) refl).1 power.0;
                aligned = ap (λ n. a % n) same ∙ (ap (λ n. n % greatest) start ∙ thread_start_multiple);
                file_in_memory = omega (arith, less);
                end = omega (arith, e, one_end, one_at);
              };
              small = let p = power.1 in omega (arith, same, p);
            }

        pub own_thread_headers : AreThreadHeaders base (thread_headers base placed)
        own_thread_headers = by (start_of_pieces is_thread_piece placed) refl
          where
            by :
                (o : Option ℕ) → start_of_pieces is_thread_piece placed ≡ o →
                AreThreadHeaders base (option_map_or (λ b. thread_header base placed b ∷ []) (option_map (block_from placed) o) [])
            by None e = record { each = All-nil (IsThreadHeader base); few = omega arith }
            by (Some a) e = record {
              each = All-cons (IsThreadHeader base) (thread_header base placed (block_from placed a)) [] (good_header a e) (All-nil (IsThreadHeader base));
              few = omega arith;
            }

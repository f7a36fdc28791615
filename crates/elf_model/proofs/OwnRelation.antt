-- The running address puts each piece where the relation of the own addresses asks for it.
use Rattle.std.proofs.Common.{◌≡◌, ℕ, ◌+◌, ◌-◌, ◌*◌, ◌/◌, ◌%◌, ◌<◌, ◌≤◌, ◌⊎◌, inl, inr, Bool, true, false, not, ◌&&◌, cond, List, [], ◌∷◌, ◌++◌, append_assoc, length, length-append, rules, refl, sym, ◌∙◌, ap, subst, arith, div-add-mod'}
use Rattle.std.specs.Prelude.{All, Contains, filter}
use Rattle.std.proofs.lemmas.Bool.{and_from, false≢true}
use Rattle.std.proofs.Math.Nat.{lt_of_mul-lt-mul_right, mul-le-mul_right}
use Rattle.std.proofs.lemmas.List.Elements.{All-append, All-contains, All-cons, All-head, All-nil, All-tail, Contains-append_cases, Contains-append_left, Contains-append_right}
use Rattle.elf_model.specs.Link.Loading.{LoadedObject}
use Rattle.elf_model.specs.Own.OwnAddresses.{AllEndBy, AreOwnAddresses, IsLeastMultiple, MayBegin, MayStand, moves, segment_start}
use Rattle.elf_model.specs.Own.OwnLayout.{code_pieces, code_start, data_pieces, data_start, end_of, first_start, initial_pieces, laid_out, is_code, is_read_only, is_thread_rest, loaded_start, own_code, own_data, own_headers_size, own_loaded, own_read_only, own_thread_rest, page_up, place_at, placed_end, placed_from, read_only_pieces, read_only_start, thread_rest_pieces, thread_rest_start, thread_start}
use Rattle.elf_model.specs.Link.Pieces.{AreLawfulKinds, IsLawfulKind, Piece, is_executable, is_nobits, is_thread_piece, is_thread_zero, is_writable, kept_sections}
use Rattle.elf_model.specs.Link.Placement.{Placed, round_up}
use Rattle.elf_model.specs.Link.ThreadStorage.{alignment_of}
use Rattle.elf_model.proofs.Listed.{All-from_contains, All-parts, Contains-filter, Contains-from_filter, Contains-here, Contains-map, cons_head, cons_tail}
use Rattle.elf_model.proofs.OwnOrder.{code_not_thread, code_not_writable, from_data, from_initial, from_thread_rest, initial_is, laid_out_lawful, loaded_whole, plain_data, read_only_not_thread, thread_rest_is}
use Rattle.elf_model.proofs.Places.{All-placed, InCode, InData, InReadOnly, code_aligned, data_aligned, initial_aligned, loaded_start_high, own_code_within, own_data_within, own_loaded_pieces, own_placed_pieces, own_read_only_within, own_starts, read_only_aligned, some_alignment, thread_rest_aligned, thread_start_high}
use Rattle.elf_model.proofs.Running.{HasAlignment, StandsWithin, end_of-ge, rounded_up}
use Rattle.elf_model.proofs.ThreadPlaces.{initial_within, own_data_parts, own_initial, own_plain, run_piece, thread_in_initial}

nil-cons : {X : Type 0} (ys : List X) (x : X) (xs : List X) → [] ≡ ys ++ x ∷ xs → ⊥
nil-cons {X} ys x xs is = let n = ap (length {A = X}) is in let m = length-append ys (x ∷ xs) in omega (arith, n, m)

-- rounding up gives the least multiple not below a number
rounded_least : (a x y : ℕ) → 0 < a → y % a ≡ 0 → x ≤ y → round_up a x ≤ y
rounded_least a x y some multiple above =
    let q : ℕ = (x + (a - 1)) / a in
    let d = div-add-mod' (x + (a - 1)) a in
    let e = div-add-mod' y a in
    let more : (y / a + 1) * a ≡ y / a * a + a = search rules in
    let less : q < y / a + 1 = lt_of_mul-lt-mul_right a (omega (arith, d, e, multiple, above, some, more)) in
    let low : q * a ≤ y / a * a = mul-le-mul_right a (omega (arith, less)) in
    omega (arith, low, e, multiple)

-- A run from an address on: a piece of it, and those before it in the run.
record StandsLeast (x : ℕ) (before : List Placed) (q : Placed) : Type 0 where
  multiple : q.at % q.piece.align ≡ 0
  start : x ≤ q.at
  others : AllEndBy before q.at
  least : (y : ℕ) → y % q.piece.align ≡ 0 → x ≤ y → AllEndBy before y → q.at ≤ y

run_least :
    (x : ℕ) (ps : List Piece) (before rest : List Placed) (q : Placed) → All HasAlignment ps → placed_from x ps ≡ before ++ q ∷ rest →
    StandsLeast x before q
run_least x [] before rest q aligned is = absurd (nil-cons before q rest is)
run_least x (p ∷ ps) [] rest q aligned is =
    let same : place_at x p ≡ q = cons_head is in
    let some = All-head HasAlignment p ps aligned in
    let r = rounded_up p.align x some in
    subst (StandsLeast x []) same
    (record {
      multiple = r.2;
      start = r.0;
      others = All-nil (λ b. placed_end b ≤ round_up p.align x);
      least = λ y multiple above none. rounded_least p.align x y some multiple above;
    })
run_least x (p ∷ ps) (b ∷ before) rest q aligned is =
    let same : place_at x p ≡ b = cons_head is in
    let tail : placed_from (placed_end (place_at x p)) ps ≡ before ++ q ∷ rest = cons_tail is in
    let here = run_least (placed_end (place_at x p)) ps before rest q (All-tail HasAlignment p ps aligned) tail in
    let up = (rounded_up p.align x (All-head HasAlignment p ps aligned)).0 in
    let start = here.start in
    subst (λ (c : Placed). StandsLeast x (c ∷ before) q) same
    (record {
      multiple = here.multiple;
      start = omega (arith, start, up);
      others = All-cons (λ c. placed_end c ≤ q.at) (place_at x p) before start here.others;
      least = λ y multiple above others.
          here.least y multiple (All-head (λ c. placed_end c ≤ y) (place_at x p) before others)
          (All-tail (λ c. placed_end c ≤ y) (place_at x p) before others);
    })

-- a list that is split at an element, where it is two lists in a row
split :
    (xs ys before rest : List Placed) (q : Placed) → xs ++ ys ≡ before ++ q ∷ rest →
    ((more : List Placed) × (xs ≡ before ++ q ∷ more)) ⊎ ((more : List Placed) × (before ≡ xs ++ more) × (ys ≡ more ++ q ∷ rest))
split [] ys before rest q is = inr (before, refl, is)
split (x ∷ xs) ys [] rest q is = inl (xs, ap (λ (z : Placed). z ∷ xs) (cons_head is))
split (x ∷ xs) ys (b ∷ before) rest q is = by (split xs ys before rest q (cons_tail is))
  where
    by :
        ((more : List Placed) × (xs ≡ before ++ q ∷ more)) ⊎ ((more : List Placed) × (before ≡ xs ++ more) × (ys ≡ more ++ q ∷ rest)) →
        ((more : List Placed) × (x ∷ xs ≡ (b ∷ before) ++ q ∷ more)) ⊎ ((more : List Placed) × (b ∷ before ≡ (x ∷ xs) ++ more) × (ys ≡ more ++ q ∷ rest))
    by (inl here) = inl (here.0, ap (λ (z : Placed). z ∷ xs) (cons_head is) ∙ ap (λ (zs : List Placed). b ∷ zs) here.1)
    by (inr there) = inr (there.0, ap (λ (z : Placed). z ∷ before) (sym (cons_head is)) ∙ ap (λ (zs : List Placed). x ∷ zs) there.1, there.2)

-- what holds of each element holds of the one at which a list is split
at_split : (P : Placed → Type 0) (xs before rest : List Placed) (q : Placed) → xs ≡ before ++ q ∷ rest → All P xs → P q
at_split P xs before rest q is all = All-head P q rest (All-parts P before (q ∷ rest) (subst (All P) is all)).1

-- what is code, or writable, isn't read-only
code_other : (p : Piece) → is_code p ≡ true → is_read_only p ≡ false
code_other p code =
    elim (is_writable p.header) as (λ b. (not b && not (is_executable p.header)) ≡ false) [
      | true ↦ refl
      | false ↦ ap (λ b. not b) code
    ]

data_other : (p : Piece) → is_writable p.header ≡ true → is_read_only p ≡ false
data_other p write = ap (λ b. not b && not (is_executable p.header)) write

not_code : (p : Piece) → IsLawfulKind p.header → is_writable p.header ≡ true → is_code p ≡ false
not_code p lawful write = by (is_code p) refl
  where
    by : (b : Bool) → is_code p ≡ b → is_code p ≡ false
    by true e = absurd (code_not_writable p lawful e write)
    by false e = e

-- the place at which a list is split is one of it
split_there : (xs before rest : List Placed) (q : Placed) → xs ≡ before ++ q ∷ rest → Contains xs q
split_there xs before rest q is =
    subst (λ (qs : List Placed). Contains qs q) (sym is) (Contains-append_right before (q ∷ rest) q (Contains-here rest q))

-- a filter that all pass
filter_whole : (t : Placed → Bool) (xs : List Placed) → All (λ x. t x ≡ true) xs → filter t xs ≡ xs
filter_whole t [] all = refl
filter_whole t (x ∷ xs) all =
    ap (λ b. cond b (x ∷ filter t xs) (filter t xs)) (All-head (λ y. t y ≡ true) x xs all)
    ∙ ap (λ (l : List Placed). x ∷ l) (filter_whole t xs (All-tail (λ y. t y ≡ true) x xs all))

-- of two that memory has places for, each moves the other
moved : (p q : Piece) → is_thread_rest q ≡ false → is_thread_rest p ≡ false → moves p q ≡ true
moved p q second first = ap (λ b. cond b (is_thread_piece p) (not (is_thread_rest p))) second ∙ ap (λ b. not b) first

-- a thread-local one without bytes that may be written is one without bytes
rest_bare : (p : Piece) → is_thread_rest p ≡ true → is_thread_zero p ≡ true
rest_bare p e =
    let is = thread_rest_is p e in
    and_from (is_thread_piece p) (is_nobits p.header) is.1 (bare (is_nobits p.header) is.2)
  where
    bare : (b : Bool) → not b ≡ false → b ≡ true
    bare true e = refl
    bare false e = sym e

-- a run ends at or below what lies below neither its beginning nor the end of a piece of it
end_least : (x : ℕ) (ps : List Piece) (y : ℕ) → x ≤ y → AllEndBy (placed_from x ps) y → end_of x ps ≤ y
end_least x [] y low ends = low
end_least x (p ∷ ps) y low ends =
    end_least (placed_end (place_at x p)) ps y
    (All-head (λ q. placed_end q ≤ y) (place_at x p) (placed_from (placed_end (place_at x p)) ps) ends)
    (All-tail (λ q. placed_end q ≤ y) (place_at x p) (placed_from (placed_end (place_at x p)) ps) ends)

module _ (base : ℕ) (objects : List LoadedObject) where
  -- where the pieces of RW begin lies below what a piece of them may stand at
  first_below :
      (ps : List Piece) (rest : List Piece) (before more : List Placed) (q : Placed) (y : ℕ) → All HasAlignment ps →
      All (λ p. is_thread_piece p ≡ true) ps → data_start base objects ≤ y →
      (is_thread_piece q.piece ≡ true → thread_start base objects ≤ y) → AllEndBy before y →
      placed_from (first_start base objects ps) (ps ++ rest) ≡ before ++ q ∷ more → first_start base objects ps ≤ y
  first_below [] rest before more q y aligned threads low high others is = low
  first_below (p ∷ ps) rest [] more q y aligned threads low high others is =
      let same : place_at (thread_start base objects) p ≡ q = cons_head is in
      high (subst (λ (r : Placed). is_thread_piece r.piece ≡ true) same (All-head (λ p. is_thread_piece p ≡ true) p ps threads))
  first_below (p ∷ ps) rest (b ∷ before) more q y aligned threads low high others is =
      let same : place_at (thread_start base objects) p ≡ b = cons_head is in
      let up = (rounded_up p.align (thread_start base objects) (All-head HasAlignment p ps aligned)).0 in
      let ends : placed_end (place_at (thread_start base objects) p) ≤ y =
      subst (λ (r : Placed). placed_end r ≤ y) (sym same) (All-head (λ c. placed_end c ≤ y) b before others) in
      omega (arith, up, ends)

  start_below :
      (y : ℕ) (before more : List Placed) (q : Placed) → data_start base objects ≤ y →
      (is_thread_piece q.piece ≡ true → thread_start base objects ≤ y) → AllEndBy before y →
      own_data base objects ≡ before ++ q ∷ more → loaded_start base objects ≤ y
  start_below y before more q low high others is =
      first_below (initial_pieces objects) (plain_data objects) before more q y (initial_aligned objects)
      (All-from_contains (λ p. is_thread_piece p ≡ true) (initial_pieces objects) (λ p c. (initial_is p (from_initial objects p c).1).1))
      low high others is

  threads_begin :
      IsLeastMultiple (alignment_of is_thread_piece (kept_sections objects)) (λ a. data_start base objects ≤ a) (thread_start base objects)
  threads_begin =
      let a : ℕ = alignment_of is_thread_piece (kept_sections objects) in
      let some = some_alignment is_thread_piece (kept_sections objects) in
      record {
        multiple = (rounded_up a (data_start base objects) some).2;
        holds = thread_start_high base objects;
        least = λ y multiple above. rounded_least a (data_start base objects) y some multiple above;
      }

  read_only_ends : All (λ q. placed_end q ≤ code_start base objects) (own_read_only base objects)
  read_only_ends k d within = (own_read_only_within base objects k d within).1

  code_ends : All (λ q. placed_end q ≤ data_start base objects) (own_code base objects)
  code_ends k d within = (own_code_within base objects k d within).1

  earlier_ends : (a : ℕ) → data_start base objects ≤ a → AllEndBy (own_read_only base objects ++ own_code base objects) a
  earlier_ends a low =
      let starts = own_starts base objects in
      All-append (λ q. placed_end q ≤ a) (own_read_only base objects) (own_code base objects)
      (λ k d within. let e = read_only_ends k d within in omega (arith, e, low, starts))
      (λ k d within. let e = code_ends k d within in omega (arith, e, low))

  -- a page boundary after a run
  page_least : (x : ℕ) (ps : List Piece) (y : ℕ) → All HasAlignment ps → y % 4096 ≡ 0 → x ≤ y → AllEndBy (placed_from x ps) y → page_up (end_of x ps) ≤ y
  page_least x [] y aligned multiple above ends = rounded_least 4096 x y (omega arith) multiple above
  page_least x (p ∷ ps) y aligned multiple above ends =
      page_least (placed_end (place_at x p)) ps y (All-tail HasAlignment p ps aligned) multiple
      (All-head (λ q. placed_end q ≤ y) (place_at x p) (placed_from (placed_end (place_at x p)) ps) ends)
      (All-tail (λ q. placed_end q ≤ y) (place_at x p) (placed_from (placed_end (place_at x p)) ps) ends)

  code_begins : IsLeastMultiple 4096 (MayBegin base objects (own_read_only base objects)) (code_start base objects)
  code_begins = record {
    multiple = (rounded_up 4096 (end_of (read_only_start base objects) (read_only_pieces objects)) (omega arith)).2;
    holds = record { headers = (own_starts base objects).0; others = read_only_ends };
    least = λ y multiple may. page_least (read_only_start base objects) (read_only_pieces objects) y (read_only_aligned objects) multiple may.headers may.others;
  }

  data_begins : IsLeastMultiple 4096 (MayBegin base objects (own_read_only base objects ++ own_code base objects)) (data_start base objects)
  data_begins = record {
    multiple = (rounded_up 4096 (end_of (code_start base objects) (code_pieces objects)) (omega arith)).2;
    holds = record {
      headers = let starts = own_starts base objects in omega (arith, starts);
      others = earlier_ends (data_start base objects) (omega arith);
    };
    least = λ y multiple may.
        let parts = All-parts (λ q. placed_end q ≤ y) (own_read_only base objects) (own_code base objects) may.others in
        page_least (code_start base objects) (code_pieces objects) y (code_aligned objects) multiple
        (code_begins.least y multiple (record { headers = may.headers; others = parts.0 })) parts.1;
  }

  module _ (kinds : AreLawfulKinds objects) where
    abbrev Stands : List Placed → Placed → Type 0
    Stands before q = IsLeastMultiple q.piece.align (MayStand base objects before q.piece) q.at

    -- a piece that all those before it move, as it is for each that memory has a place for
    record MayStandBehind (before : List Placed) (p : Piece) (a : ℕ) : Type 0 where
      headers : base + own_headers_size objects ≤ a
      segment : segment_start base objects p ≤ a
      thread : is_thread_piece p ≡ true → thread_start base objects ≤ a
      others : AllEndBy before a

    abbrev StandsBehind : List Placed → Placed → Type 0
    StandsBehind before q = IsLeastMultiple q.piece.align (MayStandBehind before q.piece) q.at

    in_read_only : (before more : List Placed) (q : Placed) → own_read_only base objects ≡ before ++ q ∷ more → StandsBehind before q
    in_read_only before more q is =
        let s = run_least (read_only_start base objects) (read_only_pieces objects) before more q (read_only_aligned objects) is in
        let kind : is_read_only q.piece ≡ true = (at_split (InReadOnly base objects) (own_read_only base objects) before more q is (own_read_only_within base objects)).2 in
        let start : segment_start base objects q.piece ≡ base =
        ap (λ b. cond b base (cond (is_code q.piece) (code_start base objects) (data_start base objects))) kind in
        let low = s.start in
        record {
          multiple = s.multiple;
          holds = record {
            headers = low;
            segment = omega (arith, start, low);
            thread = λ t. absurd (read_only_not_thread objects kinds q.piece (run_piece (read_only_start base objects) (read_only_pieces objects) q (split_there (own_read_only base objects) before more q is)) t);
            others = s.others;
          };
          least = λ y multiple may. s.least y multiple may.headers may.others;
        }

    in_code : (before more : List Placed) (q : Placed) → own_code base objects ≡ before ++ q ∷ more → StandsBehind (own_read_only base objects ++ before) q
    in_code before more q is =
        let s = run_least (code_start base objects) (code_pieces objects) before more q (code_aligned objects) is in
        let kind : is_code q.piece ≡ true = (at_split (InCode base objects) (own_code base objects) before more q is (own_code_within base objects)).2 in
        let start : segment_start base objects q.piece ≡ code_start base objects =
        ap (λ b. cond b base (cond (is_code q.piece) (code_start base objects) (data_start base objects))) (code_other q.piece kind)
        ∙ ap (λ b. cond b (code_start base objects) (data_start base objects)) kind in
        let low = s.start in
        let starts = own_starts base objects in
        record {
          multiple = s.multiple;
          holds = record {
            headers = omega (arith, low, starts);
            segment = omega (arith, start, low);
            thread = λ t. absurd (code_not_thread objects kinds q.piece (run_piece (code_start base objects) (code_pieces objects) q (split_there (own_code base objects) before more q is)) t);
            others =
                All-append (λ c. placed_end c ≤ q.at) (own_read_only base objects) before
                (λ k d within. let e = read_only_ends k d within in omega (arith, e, low)) s.others;
          };
          least = λ y multiple may.
              let above = may.segment in
              s.least y multiple (omega (arith, above, start)) (All-parts (λ c. placed_end c ≤ y) (own_read_only base objects) before may.others).1;
        }

    -- a place of RW is one for which memory has room
    in_loaded : (q : Placed) → Contains (own_data base objects) q → Contains (own_loaded base objects) q
    in_loaded q c =
        Contains-append_right (own_read_only base objects) (own_code base objects ++ own_data base objects) q
        (Contains-append_right (own_code base objects) (own_data base objects) q c)

    in_data :
        (before more : List Placed) (q : Placed) → own_data base objects ≡ before ++ q ∷ more →
        StandsBehind ((own_read_only base objects ++ own_code base objects) ++ before) q
    in_data before more q is =
        let s = run_least (loaded_start base objects) (data_pieces objects) before more q (data_aligned objects) is in
        let high = loaded_start_high base objects in
        let write : is_writable q.piece.header ≡ true = (at_split (InData base objects) (own_data base objects) before more q is (own_data_within base objects)).1 in
        let lawful : IsLawfulKind q.piece.header =
        at_split (λ r. IsLawfulKind r.piece.header) (own_data base objects) before more q is
        (All-placed (λ p. IsLawfulKind p.header) (loaded_start base objects) (data_pieces objects)
        (All-from_contains (λ p. IsLawfulKind p.header) (data_pieces objects) (λ p c. All-contains (λ p. IsLawfulKind p.header) (laid_out objects) p (laid_out_lawful objects kinds) (from_data objects p c).0))) in
        let start : segment_start base objects q.piece ≡ data_start base objects =
        ap (λ b. cond b base (cond (is_code q.piece) (code_start base objects) (data_start base objects))) (data_other q.piece write)
        ∙ ap (λ b. cond b (code_start base objects) (data_start base objects)) (not_code q.piece lawful write) in
        let low = s.start in
        let starts = own_starts base objects in
        record {
          multiple = s.multiple;
          holds = record {
            headers = omega (arith, low, high, starts);
            segment = omega (arith, start, low, high);
            thread = λ t.
                let c = All-contains (StandsWithin (thread_start base objects) (thread_rest_start base objects)) (own_initial base objects) q (initial_within base objects)
                (thread_in_initial base objects kinds q (in_loaded q (split_there (own_data base objects) before more q is)) t) in
                c.0;
            others = All-append (λ c. placed_end c ≤ q.at) (own_read_only base objects ++ own_code base objects) before (earlier_ends q.at (omega (arith, low, high))) s.others;
          };
          least = λ y multiple may.
              let above = may.segment in
              let others = (All-parts (λ c. placed_end c ≤ y) (own_read_only base objects ++ own_code base objects) before may.others).1 in
              s.least y multiple
              (start_below y before more q (omega (arith, above, start)) may.thread others is) others;
        }

    -- the second and the third segment's pieces
    after_read_only :
        (before rest : List Placed) (q : Placed) → own_code base objects ++ own_data base objects ≡ before ++ q ∷ rest →
        StandsBehind (own_read_only base objects ++ before) q
    after_read_only before rest q is = by (split (own_code base objects) (own_data base objects) before rest q is)
      where
        by :
            ((more : List Placed) × (own_code base objects ≡ before ++ q ∷ more))
            ⊎ ((more : List Placed) × (before ≡ own_code base objects ++ more) × (own_data base objects ≡ more ++ q ∷ rest)) →
            StandsBehind (own_read_only base objects ++ before) q
        by (inl here) = in_code before here.0 q here.1
        by (inr there) =
            subst (λ (front : List Placed). StandsBehind front q)
            (append_assoc (own_read_only base objects) (own_code base objects) there.0 ∙ ap (λ (zs : List Placed). own_read_only base objects ++ zs) (sym there.1))
            (in_data there.0 rest q there.2)

    -- among those for which memory has a place
    in_loaded_part :
        (before more : List Placed) (q : Placed) → own_loaded base objects ≡ before ++ q ∷ more → StandsBehind before q
    in_loaded_part before more q is = by (split (own_read_only base objects) (own_code base objects ++ own_data base objects) before more q is)
      where
        by :
            ((rest : List Placed) × (own_read_only base objects ≡ before ++ q ∷ rest))
            ⊎ ((rest : List Placed) × (before ≡ own_read_only base objects ++ rest) × (own_code base objects ++ own_data base objects ≡ rest ++ q ∷ more)) →
            StandsBehind before q
        by (inl here) = in_read_only before here.0 q here.1
        by (inr there) = subst (λ (front : List Placed). StandsBehind front q) (sym there.1) (after_read_only there.0 more q there.2)

    -- none of them is a thread-local one without bytes
    not_rest : (q : Placed) → Contains (own_loaded base objects) q → is_thread_rest q.piece ≡ false
    not_rest q c = by (is_thread_rest q.piece) refl
      where
        whole : is_thread_zero q.piece ≡ false
        whole = loaded_whole objects kinds q.piece (subst (λ (ps : List Piece). Contains ps q.piece) (own_loaded_pieces base objects) (Contains-map (λ (r : Placed). r.piece) (own_loaded base objects) q c))

        by : (b : Bool) → is_thread_rest q.piece ≡ b → is_thread_rest q.piece ≡ false
        by true e = absurd (false≢true (sym whole ∙ rest_bare q.piece e))
        by false e = e

    -- so all of them before it move it
    loaded_stands :
        (before more : List Placed) (q : Placed) → own_loaded base objects ≡ before ++ q ∷ more → Stands before q
    loaded_stands before more q is =
        let s = in_loaded_part before more q is in
        let all : filter (λ r. moves r.piece q.piece) before ≡ before = filter_whole (λ r. moves r.piece q.piece) before
        (All-from_contains (λ r. moves r.piece q.piece ≡ true) before (λ r c.
        moved r.piece q.piece (not_rest q (split_there (own_loaded base objects) before more q is))
        (not_rest r (subst (λ (qs : List Placed). Contains qs r) (sym is) (Contains-append_left before (q ∷ more) r c))))) in
        let h = s.holds in
        record {
          multiple = s.multiple;
          holds = record { headers = h.headers; segment = h.segment; thread = h.thread; others = subst (λ (qs : List Placed). AllEndBy qs q.at) (sym all) h.others };
          least = λ y multiple may.
              s.least y multiple
              (record { headers = may.headers; segment = may.segment; thread = may.thread; others = subst (λ (qs : List Placed). AllEndBy qs y) all may.others });
        }

    -- A thread-local one without bytes stands behind the thread-local ones before it.
    in_rest :
        (before more : List Placed) (q : Placed) → own_thread_rest base objects ≡ before ++ q ∷ more →
        Stands (own_loaded base objects ++ before) q
    in_rest before more q is =
        let s = run_least (thread_rest_start base objects) (thread_rest_pieces objects) before more q (thread_rest_aligned objects) is in
        let f = from_thread_rest objects q.piece (run_piece (thread_rest_start base objects) (thread_rest_pieces objects) q (split_there (own_thread_rest base objects) before more q is)) in
        let kind = thread_rest_is q.piece f.1 in
        let lawful : IsLawfulKind q.piece.header = All-contains (λ p. IsLawfulKind p.header) (laid_out objects) q.piece (laid_out_lawful objects kinds) f.0 in
        let start : segment_start base objects q.piece ≡ data_start base objects =
        ap (λ b. cond b base (cond (is_code q.piece) (code_start base objects) (data_start base objects))) (data_other q.piece kind.0)
        ∙ ap (λ b. cond b (code_start base objects) (data_start base objects)) (not_code q.piece lawful kind.0) in
        let low = s.start in
        let starts = own_starts base objects in
        let high = thread_start_high base objects in
        let behind = end_of-ge (thread_start base objects) (initial_pieces objects) (initial_aligned objects) in
        let mover : Placed → Bool = λ r. moves r.piece q.piece in
        let thread : (r : Placed) → mover r ≡ is_thread_piece r.piece = λ r. ap (λ b. cond b (is_thread_piece r.piece) (not (is_thread_rest r.piece))) f.1 in
        record {
          multiple = s.multiple;
          holds = record {
            headers = omega (arith, low, starts, high, behind);
            segment = omega (arith, start, low, high, behind);
            thread = λ t. omega (arith, low, behind);
            others =
                All-from_contains (λ r. placed_end r ≤ q.at) (filter mover (own_loaded base objects ++ before)) (λ r c.
                let from = Contains-from_filter mover (own_loaded base objects ++ before) r c in
                ends_before before q r low s.others (sym (thread r) ∙ from.1) (Contains-append_cases (own_loaded base objects) before r from.0));
          };
          least = λ y multiple may.
              let t = may.thread kind.1 in
              let moved_all : (r : Placed) → Contains (own_loaded base objects ++ before) r → is_thread_piece r.piece ≡ true → placed_end r ≤ y =
              λ r c e. All-contains (λ r. placed_end r ≤ y) (filter mover (own_loaded base objects ++ before)) r may.others
              (Contains-filter mover (own_loaded base objects ++ before) r c (thread r ∙ e)) in
              s.least y multiple
              (end_least (thread_start base objects) (initial_pieces objects) y t
              (All-from_contains (λ r. placed_end r ≤ y) (own_initial base objects) (λ r c.
              moved_all r (Contains-append_left (own_loaded base objects) before r (in_loaded r (initial_in_data r c))) (initial_thread r c))))
              (All-from_contains (λ r. placed_end r ≤ y) before (λ r c.
              moved_all r (Contains-append_right (own_loaded base objects) before r c) (rest_thread before more q is r c)));
        }
      where
        initial_in_data : (r : Placed) → Contains (own_initial base objects) r → Contains (own_data base objects) r
        initial_in_data r c =
            subst (λ (qs : List Placed). Contains qs r) (sym (own_data_parts base objects)) (Contains-append_left (own_initial base objects) (own_plain base objects) r c)

        initial_thread : (r : Placed) → Contains (own_initial base objects) r → is_thread_piece r.piece ≡ true
        initial_thread r c = (initial_is r.piece (from_initial objects r.piece (run_piece (thread_start base objects) (initial_pieces objects) r c)).1).1

        rest_thread : (before more : List Placed) (q : Placed) → own_thread_rest base objects ≡ before ++ q ∷ more → (r : Placed) → Contains before r → is_thread_piece r.piece ≡ true
        rest_thread before more q is r c =
            (thread_rest_is r.piece (from_thread_rest objects r.piece
            (run_piece (thread_rest_start base objects) (thread_rest_pieces objects) r
            (subst (λ (qs : List Placed). Contains qs r) (sym is) (Contains-append_left before (q ∷ more) r c)))).1).1

        ends_before :
            (before : List Placed) (q r : Placed) → thread_rest_start base objects ≤ q.at → AllEndBy before q.at → is_thread_piece r.piece ≡ true →
            Contains (own_loaded base objects) r ⊎ Contains before r → placed_end r ≤ q.at
        ends_before before q r low others t (inl loaded) =
            let w = All-contains (StandsWithin (thread_start base objects) (thread_rest_start base objects)) (own_initial base objects) r (initial_within base objects)
            (thread_in_initial base objects kinds r loaded t) in
            omega (arith, w, low)
        ends_before before q r low others t (inr earlier) = All-contains (λ c. placed_end c ≤ q.at) before r others earlier

    pub are_own_addresses : AreOwnAddresses base objects
    are_own_addresses = record {
      order = own_placed_pieces base objects;
      code = code_begins;
      data_ = data_begins;
      threads = threads_begin;
      each = λ before rest q is. by before rest q (split (own_loaded base objects) (own_thread_rest base objects) before rest q is);
    }
      where
        by :
            (before rest : List Placed) (q : Placed) →
            ((more : List Placed) × (own_loaded base objects ≡ before ++ q ∷ more))
            ⊎ ((more : List Placed) × (before ≡ own_loaded base objects ++ more) × (own_thread_rest base objects ≡ more ++ q ∷ rest)) →
            Stands before q
        by before rest q (inl here) = loaded_stands before here.0 q here.1
        by before rest q (inr there) = subst (λ (front : List Placed). Stands front q) (sym there.1) (in_rest there.0 rest q there.2)

-- The runs of the own layout lie in its segments: each in that of its rights, its bytes in the file part, and without bytes behind
-- that; and thread-local ones in the block of thread-local storage.
use Rattle.std.proofs.Common.{◌≡◌, ◌==◌, ◌⊎◌, inl, inr, ℕ, ◌%◌, ◌<◌, ◌≤◌, ◌&&◌, Bool, true, false, cond, not, List, [], ◌∷◌, ◌++◌, length, get_or, refl, sym, ◌∙◌, ap, subst, arith, append_assoc}
use Rattle.std.specs.Prelude.{All, AllPairs, Any, Contains, bit_and, map, max, nat_lt, option_map}
use Rattle.std.specs.Prelude.{None, Option, Some}
use Rattle.std.specs.Option.{option_map_or}
use Rattle.std.proofs.lemmas.Bool.{and_parts, cond_both, eqb-true, false_from_ne_true, ltb-true, false≢true, not-true, true≢false}
use Rattle.std.proofs.lemmas.List.{map-append}
use Rattle.std.proofs.lemmas.List.Kept.{AllPairs-filter}
use Rattle.std.proofs.lemmas.Nat.{and_assoc}
use Rattle.std.proofs.lemmas.List.Elements.{All-append, All-contains, All-head, All-map, All-tail, All-weaker, Contains-append_cases, Contains-append_left, Contains-append_right, filter_passes}
use Rattle.elf_model.specs.Image.MemoryImage.{Encloses}
use Rattle.elf_model.specs.Link.Commons.{block_pieces, pieces}
use Rattle.elf_model.specs.Link.LinkerValues.{end_of_pieces, start_of_pieces}
use Rattle.elf_model.specs.Link.Loading.{LoadedObject}
use Rattle.elf_model.specs.Link.Pieces.{AreLawfulKinds, IsLawfulKind, Piece, has_bytes, is_alloc, is_executable, is_nobits, is_thread_local, is_thread_piece, is_writable, rights_of}
use Rattle.elf_model.specs.Link.Placement.{Placed}
use Rattle.elf_model.specs.Own.OwnLayout.{any_placed, code_pieces, code_start, data_pieces, data_start, end_of, got_pieces, greatest_end, is_data, is_nonempty, is_zero, initial_pieces, laid_out, loaded_start, own_address, own_code, own_data, own_in_load_order, own_laid_out, own_loaded, own_placed, own_read_only, own_segments, own_thread_rest, placed_end, placed_from, placed_has_bytes, read_only_start, segment, segment_if}
use Rattle.elf_model.specs.Link.ThreadStorage.{block_from, thread_header, thread_headers}
use Rattle.elf_model.specs.declared.records.SectionHeader.{SectionHeader}
use Rattle.elf_model.proofs.Blocks.{block_pieces-each}
use Rattle.elf_model.proofs.Finding.{Any-from_contains, Any-here}
use Rattle.elf_model.proofs.Listed.{All-from_contains, All-parts, Contains-from_filter, Contains-from_map, Contains-there}
use Rattle.elf_model.proofs.OwnOrder.{chosen, code_not_writable, data_is, from_chosen_kept, from_initial, initial_is, laid_out_lawful, zero_is}
use Rattle.elf_model.proofs.Pairs.{AllPairs-append, AllPairs-parts, AllPairs-weaker}
use Rattle.elf_model.proofs.PieceBounds.{BeginsFrom, EndsBy, IsStart, all_end, start_is}
use Rattle.elf_model.proofs.PieceNumbers.{got_pieces-each}
use Rattle.elf_model.proofs.Places.{AreOwnPlaced, InCode, InData, InReadOnly, InThreadRest, are_own_placed, at_own_address, data_aligned, loaded_start_high, own_aligned, own_ascending}
use Rattle.elf_model.proofs.Running.{HasAlignment, IsAligned, IsBehind, StandsWithin, end_of-ge, placed_append, placed_within}
use Rattle.elf_model.proofs.ThreadPlaces.{own_initial, run_piece, threads_ascending}
use Rattle.own_link.proofs.Ends.{EndsBelow, greatest_end-holds}
use Rattle.own_link.proofs.LoadedThings.{loaded_whole_place}
use Rattle.own_link.proofs.Rights.{code_segment, data_segment, read_only_segment, segment_there}
use Rattle.debug_image.specs.MappedSections.{LiesIn, StandsBefore, is_thread_zero}
use Rattle.debug_image.specs.Sections.{Section, has_memory, header_of, runs_of, sections_of}
use Rattle.debug_image.proofs.Runs.{AreAlike, IsRunOf, RunsRise, runs_of-each, runs_of-rise}

-- the flags that a section's header keeps of its first piece's
kept_flag : (f flag : ℕ) → bit_and 0x407 flag ≡ flag → bit_and (bit_and f 0x407) flag ≡ bit_and f flag
kept_flag f flag is = and_assoc flag f 0x407 ∙ ap (bit_and f) is

pub record KeepsFlags (h g : SectionHeader) : Type 0 where
  pub writable : is_writable h ≡ is_writable g
  pub alloc : is_alloc h ≡ is_alloc g
  pub executable : is_executable h ≡ is_executable g
  pub thread_local : is_thread_local h ≡ is_thread_local g

pub keeps_flags : (base : ℕ) (s : Section) → KeepsFlags (header_of base s) s.first.piece.header
keeps_flags base s =
    let f : ℕ = s.first.piece.header.sh_flags in
    let test : ℕ → Bool = λ n. not (n == 0) in
    record {
      writable = ap test (kept_flag f 1 refl);
      alloc = ap test (kept_flag f 2 refl);
      executable = ap test (kept_flag f 4 refl);
      thread_local = ap test (kept_flag f 0x400 refl);
    }

pub rights_kept : (base : ℕ) (s : Section) → rights_of (header_of base s) ≡ rights_of s.first.piece.header
rights_kept base s =
    let k = keeps_flags base s in
    (λ i. cond (k.executable i) 5 (cond (k.writable i) 6 4))

-- a segment's pieces that are tested end at or below what bounds their ends
tested_below :
    (test : Placed → Bool) (x : ℕ) (qs : List Placed) (n : ℕ) → x ≤ n → All (λ q. test q ≡ true → placed_end q ≤ n) qs → greatest_end test x qs ≤ n
tested_below test x [] n low ends = low
tested_below test x (q ∷ qs) n low ends =
    let P : Placed → Type 0 = λ r. test r ≡ true → placed_end r ≤ n in
    let rest = tested_below test x qs n low (All-tail P q qs ends) in
    cond_both (test q && is_nonempty q.piece) (max (placed_end q) (greatest_end test x qs)) (greatest_end test x qs) (λ m. m ≤ n)
    (λ e. let here = All-head P q qs ends (and_parts (test q) (is_nonempty q.piece) e).0 in omega (arith, rest, here))
    (λ e. rest)

-- a run of pieces in a segment from an address on
pub run_lies :
    (base rights start from : ℕ) (qs : List Placed) (s : Section) (last : Placed) → Contains qs last → 0 < last.piece.size → s.end ≡ placed_end last →
    AreAlike s.first.piece.header last.piece.header → base ≤ start → start ≤ s.first.at → s.first.at < s.end →
    rights ≡ rights_of s.first.piece.header →
    (is_nobits s.first.piece.header ≡ true → (start ≤ s.first.at) × (greatest_end placed_has_bytes from qs ≤ s.first.at)) →
    LiesIn (header_of base s) (segment base rights start from qs)
run_lies base rights start from qs s last there some ends alike low begins long rights_are behind =
    let m = All-contains (EndsBelow any_placed (greatest_end any_placed from qs)) qs last (greatest_end-holds any_placed from qs (greatest_end any_placed from qs) (omega arith)) there refl some in
    record {
      memory = (begins, omega (arith, m, ends, begins, long));
      rights = rights_are ∙ sym (rights_kept base s);
      offset = omega (arith, low, begins);
      bytes = λ e.
          let has : placed_has_bytes last ≡ true = ap not (sym alike.nobits ∙ e) in
          let f = All-contains (EndsBelow placed_has_bytes (greatest_end placed_has_bytes from qs)) qs last (greatest_end-holds placed_has_bytes from qs (greatest_end placed_has_bytes from qs) (omega arith)) there has some in
          omega (arith, f, ends, begins, long);
      zeros = λ e. let b = behind e in omega (arith, b);
    }

-- Where pieces with bytes come first in a run, one without bytes stands behind all of them.
module _ (x : ℕ) (ps rs : List Piece) (aligned : All HasAlignment ps) (later : All HasAlignment rs) (with_bytes : All (λ p. has_bytes p ≡ true) ps) (without : All (λ p. has_bytes p ≡ false) rs) where
  front_within : All (StandsWithin x (end_of x ps)) (placed_from x ps)
  front_within = placed_within x ps aligned

  rest_within : All (StandsWithin (end_of x ps) (end_of (end_of x ps) rs)) (placed_from (end_of x ps) rs)
  rest_within = placed_within (end_of x ps) rs later

  pub bytes_end : (low : ℕ) → low ≤ x → greatest_end placed_has_bytes low (placed_from x (ps ++ rs)) ≤ end_of x ps
  bytes_end low below =
      let n : ℕ = end_of x ps in
      let up = end_of-ge x ps aligned in
      let P : Placed → Type 0 = λ q. placed_has_bytes q ≡ true → placed_end q ≤ n in
      tested_below placed_has_bytes low (placed_from x (ps ++ rs)) n (omega (arith, below, up))
      (subst (All P) (sym (placed_append x ps rs))
      (All-append P (placed_from x ps) (placed_from n rs)
      (All-weaker (StandsWithin x n) P (λ q w e. w.1) (placed_from x ps) front_within)
      (All-from_contains P (placed_from n rs) (λ q c e.
      absurd (false≢true (sym (All-contains (λ (p : Piece). has_bytes p ≡ false) rs q.piece without (run_piece n rs q c)) ∙ e))))))

  pub bare_behind : (q : Placed) → Contains (placed_from x (ps ++ rs)) q → is_nobits q.piece.header ≡ true → end_of x ps ≤ q.at
  bare_behind q c bare =
      by (Contains-append_cases (placed_from x ps) (placed_from (end_of x ps) rs) q (subst (λ (qs : List Placed). Contains qs q) (placed_append x ps rs) c))
    where
      by : Contains (placed_from x ps) q ⊎ Contains (placed_from (end_of x ps) rs) q → end_of x ps ≤ q.at
      by (inl front) =
          absurd (false≢true (sym (ap not bare) ∙ All-contains (λ (p : Piece). has_bytes p ≡ true) ps q.piece with_bytes (run_piece x ps q front)))
      by (inr rest) = (All-contains (StandsWithin (end_of x ps) (end_of (end_of x ps) rs)) (placed_from (end_of x ps) rs) q rest_within rest).0

-- the pieces of RW with bytes, and those without
abbrev with_bytes : List LoadedObject → List Piece
with_bytes objects = initial_pieces objects ++ (chosen is_data objects ++ got_pieces objects)

abbrev without_bytes : List LoadedObject → List Piece
without_bytes objects = chosen is_zero objects ++ block_pieces objects

data_split : (objects : List LoadedObject) → data_pieces objects ≡ with_bytes objects ++ without_bytes objects
data_split objects =
    sym (append_assoc (initial_pieces objects) (chosen is_data objects ++ got_pieces objects) (without_bytes objects)
    ∙ ap (λ (ps : List Piece). initial_pieces objects ++ ps) (append_assoc (chosen is_data objects) (got_pieces objects) (without_bytes objects)))

all_with : (objects : List LoadedObject) → All (λ p. has_bytes p ≡ true) (with_bytes objects)
all_with objects =
    let P : Piece → Type 0 = λ p. has_bytes p ≡ true in
    All-append P (initial_pieces objects) (chosen is_data objects ++ got_pieces objects)
    (All-from_contains P (initial_pieces objects) (λ p c. (initial_is p (from_initial objects p c).1).2))
    (All-append P (chosen is_data objects) (got_pieces objects)
    (All-from_contains P (chosen is_data objects) (λ p c. (data_is p (from_chosen_kept is_data objects p c).1).2))
    (got_pieces-each objects P refl))

all_without : (objects : List LoadedObject) → All (λ p. has_bytes p ≡ false) (without_bytes objects)
all_without objects =
    let P : Piece → Type 0 = λ p. has_bytes p ≡ false in
    All-append P (chosen is_zero objects) (block_pieces objects)
    (All-from_contains P (chosen is_zero objects) (λ p c. (zero_is p (from_chosen_kept is_zero objects p c).1).2))
    (block_pieces-each objects P (λ k s c. refl))

module _ (base : ℕ) (objects : List LoadedObject) (kinds : AreLawfulKinds objects) where
  stand : AreOwnPlaced base objects
  stand = are_own_placed base objects kinds

  -- in RW those with bytes end before those without begin
  data_bytes_end : greatest_end placed_has_bytes (data_start base objects) (own_data base objects) ≤ end_of (loaded_start base objects) (with_bytes objects)
  data_bytes_end =
      subst (λ (ps : List Piece). greatest_end placed_has_bytes (data_start base objects) (placed_from (loaded_start base objects) ps) ≤ end_of (loaded_start base objects) (with_bytes objects)) (sym (data_split objects))
      (bytes_end (loaded_start base objects) (with_bytes objects) (without_bytes objects) front_aligned rest_aligned (all_with objects) (all_without objects)
      (data_start base objects) (loaded_start_high base objects))
    where
      both : All HasAlignment (with_bytes objects ++ without_bytes objects)
      both = subst (All HasAlignment) (data_split objects) (data_aligned objects)

      front_aligned : All HasAlignment (with_bytes objects)
      front_aligned = (All-parts HasAlignment (with_bytes objects) (without_bytes objects) both).0

      rest_aligned : All HasAlignment (without_bytes objects)
      rest_aligned = (All-parts HasAlignment (with_bytes objects) (without_bytes objects) both).1

  data_bare_behind : (q : Placed) → Contains (own_data base objects) q → is_nobits q.piece.header ≡ true → greatest_end placed_has_bytes (data_start base objects) (own_data base objects) ≤ q.at
  data_bare_behind q c bare =
      let e = data_bytes_end in
      let b =
      bare_behind (loaded_start base objects) (with_bytes objects) (without_bytes objects) front_aligned rest_aligned (all_with objects) (all_without objects) q
      (subst (λ (ps : List Piece). Contains (placed_from (loaded_start base objects) ps) q) (data_split objects) c) bare in
      omega (arith, e, b)
    where
      both : All HasAlignment (with_bytes objects ++ without_bytes objects)
      both = subst (All HasAlignment) (data_split objects) (data_aligned objects)

      front_aligned : All HasAlignment (with_bytes objects)
      front_aligned = (All-parts HasAlignment (with_bytes objects) (without_bytes objects) both).0

      rest_aligned : All HasAlignment (without_bytes objects)
      rest_aligned = (All-parts HasAlignment (with_bytes objects) (without_bytes objects) both).1

  -- the kinds of all pieces are lawful
  placed_lawful : (q : Placed) → Contains (own_placed base objects) q → IsLawfulKind q.piece.header
  placed_lawful q c =
      All-contains (λ (r : Placed). IsLawfulKind r.piece.header) (own_laid_out base objects) q
      (All-map (λ (r : Placed). IsLawfulKind r.piece.header) (λ p. record { at = own_address base objects p; piece = p }) (laid_out objects) (laid_out_lawful objects kinds))
      (stand.all q c)

  loaded_placed : (q : Placed) → Contains (own_loaded base objects) q → Contains (own_placed base objects) q
  loaded_placed q c = Contains-append_left (own_loaded base objects) (own_thread_rest base objects) q c

  -- which part a piece is of follows from its rights
  abbrev Within : Placed → Type 0
  Within q =
      ((is_writable q.piece.header ≡ false) × (is_executable q.piece.header ≡ false) × Contains (own_read_only base objects) q)
      ⊎ (((is_writable q.piece.header ≡ false) × (is_executable q.piece.header ≡ true) × Contains (own_code base objects) q)
      ⊎ ((is_writable q.piece.header ≡ true) × (is_executable q.piece.header ≡ false) × Contains (own_data base objects) q))

  within_of : (q : Placed) → Contains (own_loaded base objects) q → Within q
  within_of q c = by (Contains-append_cases (own_read_only base objects) (own_code base objects ++ own_data base objects) q c)
    where
      lawful : IsLawfulKind q.piece.header
      lawful = placed_lawful q (loaded_placed q c)

      rest : Contains (own_code base objects) q ⊎ Contains (own_data base objects) q → Within q
      rest (inl there) =
          let x : is_executable q.piece.header ≡ true = (All-contains (InCode base objects) (own_code base objects) q stand.code there).2 in
          inr (inl (false_from_ne_true (is_writable q.piece.header) (λ w. code_not_writable q.piece lawful x w), x, there))
      rest (inr there) =
          let w : is_writable q.piece.header ≡ true = (All-contains (InData base objects) (own_data base objects) q stand.data_ there).1 in
          inr (inr (w, false_from_ne_true (is_executable q.piece.header) (λ x. code_not_writable q.piece lawful x w), there))

      by : Contains (own_read_only base objects) q ⊎ Contains (own_code base objects ++ own_data base objects) q → Within q
      by (inl there) =
          let r = (All-contains (InReadOnly base objects) (own_read_only base objects) q stand.read_only there).2 in
          let e = and_parts (not (is_writable q.piece.header)) (not (is_executable q.piece.header)) r in
          inl (not-true (is_writable q.piece.header) e.0, not-true (is_executable q.piece.header) e.1, there)
      by (inr later) = rest (Contains-append_cases (own_code base objects) (own_data base objects) q later)

  -- a run of them lies in the segment of its rights
  abbrev pub Lies : Section → Type 0
  Lies s = Any (LiesIn (header_of base s)) (own_segments base objects)

  module _ (s : Section) (run : IsRunOf (Contains (own_loaded base objects)) s) (long : s.first.at < s.end) where
    not_bare : is_writable s.first.piece.header ≡ false → is_nobits s.first.piece.header ≡ true → ⊥
    not_bare w n = true≢false (sym ((placed_lawful s.first (loaded_placed s.first run.first)).nobits n) ∙ w)

    in_front : Contains (own_read_only base objects) s.first → Contains (own_read_only base objects) run.last → is_writable s.first.piece.header ≡ false → is_executable s.first.piece.header ≡ false → Lies s
    in_front first last w x =
        let at = (All-contains (InReadOnly base objects) (own_read_only base objects) s.first stand.read_only first).0 in
        Any-here (LiesIn (header_of base s)) (read_only_segment base objects kinds)
        (segment_if (code_pieces objects) (code_segment base objects kinds) ++ segment_if (data_pieces objects) (data_segment base objects kinds))
        (run_lies base 4 base (read_only_start base objects) (own_read_only base objects) s run.last last (run.some long) run.end run.alike (omega arith) (omega (arith, at)) long
        (λ i. cond (sym x i) 5 (cond (sym w i) 6 4)) (λ n. absurd (not_bare w n)))

    in_code : Contains (own_code base objects) s.first → Contains (own_code base objects) run.last → is_writable s.first.piece.header ≡ false → is_executable s.first.piece.header ≡ true → Lies s
    in_code first last w x =
        let at = (All-contains (InCode base objects) (own_code base objects) s.first stand.code first).0 in
        let starts = stand.starts in
        Any-from_contains (LiesIn (header_of base s)) (own_segments base objects) (code_segment base objects kinds)
        (Contains-there (read_only_segment base objects kinds) (segment_if (code_pieces objects) (code_segment base objects kinds) ++ segment_if (data_pieces objects) (data_segment base objects kinds)) (code_segment base objects kinds)
        (Contains-append_left (segment_if (code_pieces objects) (code_segment base objects kinds)) (segment_if (data_pieces objects) (data_segment base objects kinds)) (code_segment base objects kinds)
        (segment_there (code_start base objects) (code_pieces objects) (code_segment base objects kinds) run.last last (run.some long))))
        (run_lies base 5 (code_start base objects) (code_start base objects) (own_code base objects) s run.last last (run.some long) run.end run.alike (omega (arith, starts)) at long
        (λ i. cond (sym x i) 5 (cond (is_writable s.first.piece.header) 6 4)) (λ n. absurd (not_bare w n)))

    in_data : Contains (own_data base objects) s.first → Contains (own_data base objects) run.last → is_writable s.first.piece.header ≡ true → is_executable s.first.piece.header ≡ false → Lies s
    in_data first last w x =
        let at = (All-contains (InData base objects) (own_data base objects) s.first stand.data_ first).0 in
        let starts = stand.starts in
        Any-from_contains (LiesIn (header_of base s)) (own_segments base objects) (data_segment base objects kinds)
        (Contains-there (read_only_segment base objects kinds) (segment_if (code_pieces objects) (code_segment base objects kinds) ++ segment_if (data_pieces objects) (data_segment base objects kinds)) (data_segment base objects kinds)
        (Contains-append_right (segment_if (code_pieces objects) (code_segment base objects kinds)) (segment_if (data_pieces objects) (data_segment base objects kinds)) (data_segment base objects kinds)
        (segment_there (loaded_start base objects) (data_pieces objects) (data_segment base objects kinds) run.last last (run.some long))))
        (run_lies base 6 (data_start base objects) (data_start base objects) (own_data base objects) s run.last last (run.some long) run.end run.alike (omega (arith, starts)) at long
        (λ i. cond (sym x i) 5 (cond (sym w i) 6 4)) (λ n. (at, data_bare_behind s.first first n)))

    pub loaded_run_lies : Lies s
    loaded_run_lies = by (within_of s.first run.first) (within_of run.last run.last_is)
      where
        clash : (a b : Bool) → a ≡ b → a ≡ true → b ≡ false → ⊥
        clash a b e t f = true≢false (sym t ∙ (e ∙ f))

        by : Within s.first → Within run.last → Lies s
        by (inl f) (inl l) = in_front f.2 l.2 f.0 f.1
        by (inl f) (inr (inl l)) = absurd (clash (is_executable run.last.piece.header) (is_executable s.first.piece.header) (sym run.alike.executable) l.1 f.1)
        by (inl f) (inr (inr l)) = absurd (clash (is_writable run.last.piece.header) (is_writable s.first.piece.header) (sym run.alike.writable) l.0 f.0)
        by (inr (inl f)) (inl l) = absurd (clash (is_executable s.first.piece.header) (is_executable run.last.piece.header) run.alike.executable f.1 l.1)
        by (inr (inl f)) (inr (inl l)) = in_code f.2 l.2 f.0 f.1
        by (inr (inl f)) (inr (inr l)) = absurd (clash (is_writable run.last.piece.header) (is_writable s.first.piece.header) (sym run.alike.writable) l.0 f.0)
        by (inr (inr f)) (inl l) = absurd (clash (is_writable s.first.piece.header) (is_writable run.last.piece.header) run.alike.writable f.0 l.0)
        by (inr (inr f)) (inr (inl l)) = absurd (clash (is_writable s.first.piece.header) (is_writable run.last.piece.header) run.alike.writable f.0 l.0)
        by (inr (inr f)) (inr (inr l)) = in_data f.2 l.2 f.0 f.1

  -- A thread-local run lies in the block of thread-local storage.
  thread_in_order : (q : Placed) → Contains (own_placed base objects) q → is_thread_piece q.piece ≡ true → Contains (own_in_load_order base objects) q
  thread_in_order q c t =
      by (Contains-append_cases (own_in_load_order base objects) (map (at_own_address base objects) (got_pieces objects)) q
      (subst (λ (qs : List Placed). Contains qs q) (map-append (at_own_address base objects) (pieces objects) (got_pieces objects)) (stand.all q c)))
    where
      by : Contains (own_in_load_order base objects) q ⊎ Contains (map (at_own_address base objects) (got_pieces objects)) q → Contains (own_in_load_order base objects) q
      by (inl there) = there
      by (inr got) =
          let i = Contains-from_map (at_own_address base objects) (got_pieces objects) q got in
          let none = All-contains (λ (p : Piece). is_thread_piece p ≡ false) (got_pieces objects) i.of (got_pieces-each objects (λ p. is_thread_piece p ≡ false) refl) i.there in
          absurd (false≢true (sym none ∙ (ap (λ (r : Placed). is_thread_piece r.piece) i.is ∙ t)))

  abbrev ordered : List Placed
  ordered = own_in_load_order base objects

  abbrev pub LiesInBlock : Section → Type 0
  LiesInBlock s = Any (λ g. Encloses g (header_of base s).sh_addr (header_of base s).sh_size) (thread_headers base (own_in_load_order base objects))

  pub thread_run_lies :
      (s : Section) → IsRunOf (Contains (own_placed base objects)) s → s.first.at < s.end → is_thread_local s.first.piece.header ≡ true → LiesInBlock s
  thread_run_lies s run long t = by (start_of_pieces is_thread_piece ordered) (start_is is_thread_piece ordered)
    where
      first_in : Contains ordered s.first
      first_in = thread_in_order s.first run.first t

      last_thread : is_thread_piece run.last.piece ≡ true
      last_thread = sym run.alike.thread_local ∙ t

      ends : placed_end run.last ≤ end_of_pieces is_thread_piece ordered
      ends = All-contains (EndsBy is_thread_piece (end_of_pieces is_thread_piece ordered)) ordered run.last (all_end is_thread_piece ordered) (thread_in_order run.last run.last_is last_thread) last_thread

      by :
          (o : Option ℕ) → IsStart is_thread_piece o ordered →
          Any (λ g. Encloses g (header_of base s).sh_addr (header_of base s).sh_size)
          (option_map_or (λ b. thread_header base ordered b ∷ []) (option_map (block_from ordered) o) [])
      by None none = absurd (All-contains (λ (q : Placed). is_thread_piece q.piece ≡ true → ⊥) ordered s.first none first_in t)
      by (Some a) start =
          let begins = All-contains (BeginsFrom is_thread_piece a) ordered s.first start.0 first_in t in
          let end = run.end in
          Any-here (λ g. Encloses g (header_of base s).sh_addr (header_of base s).sh_size) (thread_header base ordered (block_from ordered a)) []
          (begins, omega (arith, begins, ends, end, long))

  -- The runs of each kind rise.
  abbrev pub bare_thread : SectionHeader → Bool
  bare_thread = is_thread_zero

  shared : (g h : SectionHeader) → AreAlike g h → bare_thread g ≡ bare_thread h
  shared g h alike = λ i. alike.thread_local i && alike.nobits i

  abbrev pub RisesOwn : Placed → Placed → Type 0
  RisesOwn p q = bare_thread p.piece.header ≡ bare_thread q.piece.header → placed_end p ≤ q.at

  pub own_rise : AllPairs RisesOwn (own_placed base objects)
  own_rise =
      AllPairs-append RisesOwn (own_loaded base objects) (own_thread_rest base objects)
      (AllPairs-weaker IsBehind RisesOwn (λ p q behind e. behind) (own_loaded base objects) (own_ascending base objects))
      (AllPairs-weaker IsBehind RisesOwn (λ p q behind e. behind) (own_thread_rest base objects)
      (AllPairs-parts IsBehind (own_initial base objects) (own_thread_rest base objects) (threads_ascending base objects)).1)
      (All-weaker (λ p. bare_thread p.piece.header ≡ false) (λ p. All (RisesOwn p) (own_thread_rest base objects))
      (λ p whole. All-weaker (InThreadRest base objects) (RisesOwn p)
      (λ q rest e. absurd (false≢true (sym whole ∙ (e ∙ rest.1)))) (own_thread_rest base objects) stand.thread_rest)
      (own_loaded base objects) stand.whole)

  -- What is so of each section of the image.
  abbrev pub own_sections : List Section
  own_sections = sections_of (length objects) (own_placed base objects)

  runs : All (IsRunOf (Contains (own_placed base objects))) (runs_of (length objects) (own_placed base objects))
  runs = runs_of-each (length objects) (Contains (own_placed base objects)) (own_placed base objects) (All-from_contains (Contains (own_placed base objects)) (own_placed base objects) (λ q c. c))

  pub own_sections-each : (Q : Section → Type 0) → ((s : Section) → IsRunOf (Contains (own_placed base objects)) s → s.first.at < s.end → Q s) → All Q own_sections
  own_sections-each Q each =
      All-from_contains Q own_sections (λ s c.
      let f = Contains-from_filter has_memory (runs_of (length objects) (own_placed base objects)) s c in
      each s (All-contains (IsRunOf (Contains (own_placed base objects))) (runs_of (length objects) (own_placed base objects)) s runs f.0) (ltb-true s.first.at s.end f.1))

  -- a run that has a place in memory is one of loaded pieces
  loaded_run : (s : Section) → IsRunOf (Contains (own_placed base objects)) s → bare_thread s.first.piece.header ≡ false → IsRunOf (Contains (own_loaded base objects)) s
  loaded_run s run whole = record {
    first = loaded_whole_place base objects kinds s.first run.first whole;
    last = run.last;
    last_is = loaded_whole_place base objects kinds run.last run.last_is (sym (shared s.first.piece.header run.last.piece.header run.alike) ∙ whole);
    alike = run.alike;
    end = run.end;
    some = run.some;
  }

  zero_kept : (s : Section) → is_thread_zero (header_of base s) ≡ is_thread_zero s.first.piece.header
  zero_kept s = ap (λ (b : Bool). b && is_nobits s.first.piece.header) (keeps_flags base s).thread_local

  pub sections_lie : All (λ s. is_thread_zero (header_of base s) ≡ false → Lies s) own_sections
  sections_lie =
      own_sections-each (λ s. is_thread_zero (header_of base s) ≡ false → Lies s) (λ s run long whole.
      loaded_run_lies s (loaded_run s run (sym (zero_kept s) ∙ whole)) long)

  pub threads_lie : All (λ s. is_thread_local (header_of base s) ≡ true → LiesInBlock s) own_sections
  threads_lie =
      own_sections-each (λ s. is_thread_local (header_of base s) ≡ true → LiesInBlock s) (λ s run long t.
      thread_run_lies s run long (sym (keeps_flags base s).thread_local ∙ t))

  pub sections_some : All (λ s. 0 < (header_of base s).sh_size) own_sections
  sections_some = own_sections-each (λ s. 0 < (header_of base s).sh_size) (λ s run long. omega (arith, long))

  -- each is aligned
  aligned_by :
      (b c : Bool) (at align own : ℕ) → nat_lt 0 align ≡ b → (at % align == 0) ≡ c → at % own ≡ 0 → at % cond (b && c) align own ≡ 0
  aligned_by true true at align own some is low = eqb-true (at % align) 0 is
  aligned_by true false at align own some is low = low
  aligned_by false c at align own some is low = low

  pub sections_aligned : All (λ s. (header_of base s).sh_addr % (header_of base s).sh_addralign ≡ 0) own_sections
  sections_aligned =
      own_sections-each (λ s. (header_of base s).sh_addr % (header_of base s).sh_addralign ≡ 0) (λ s run long.
      aligned_by (nat_lt 0 s.align) (s.first.at % s.align == 0) s.first.at s.align s.first.piece.align refl refl
      (All-contains IsAligned (own_placed base objects) s.first (own_aligned base objects) run.first))

  pub sections_rise : AllPairs (λ s t. StandsBefore (header_of base s) (header_of base t)) own_sections
  sections_rise i j d low high =
      let s = get_or own_sections i d in
      let t = get_or own_sections j d in
      let rise =
      AllPairs-filter (RunsRise (length objects) bare_thread shared) has_memory (runs_of (length objects) (own_placed base objects))
      (runs_of-rise (length objects) bare_thread shared (own_placed base objects) own_rise) i j d low high in
      let long : s.first.at < s.end = ltb-true s.first.at s.end (filter_passes has_memory (runs_of (length objects) (own_placed base objects)) i d (omega (arith, low, high))) in
      λ e. let r = rise (sym (zero_kept s) ∙ (e ∙ zero_kept t)) in omega (arith, r, long)

-- Thread-local storage of the own layout, in whichever order its pieces are listed.
use Rattle.std.proofs.Common.{◌≡◌, ◌∙◌, ℕ, ◌-◌, ◌<◌, ◌≤◌, ◌||◌, ◌⊎◌, inl, inr, Bool, true, false, cond, max, List, [], ◌∷◌, ◌++◌, length, map, refl, subst, sym, ap, take, arith}
use Rattle.std.specs.Prelude.{All, Contains, Option, Some, None, option_map}
use Rattle.std.specs.List.{list_any}
use Rattle.std.proofs.Math.Seq.{take-append_seam}
use Rattle.std.proofs.lemmas.Bool.{false≢true}
use Rattle.std.proofs.lemmas.List.{take-map}
use Rattle.std.proofs.lemmas.List.Elements.{All-append, All-contains, All-cons, All-head, All-map, All-nil, All-tail, All-weaker, Contains-append_cases, Contains-append_left}
use Rattle.elf_model.specs.Link.Commons.{Block, block_piece, block_pieces, blocks, pieces}
use Rattle.elf_model.specs.Link.LinkerValues.{least_of, start_of_pieces}
use Rattle.elf_model.specs.Link.Loading.{LoadedObject}
use Rattle.elf_model.specs.Own.OwnLayout.{got_pieces, has_thread_pieces, initial_pieces, laid_out, own_code, own_data, own_in_load_order, own_loaded, own_placed, own_read_only, own_thread_rest, thread_start}
use Rattle.elf_model.specs.Link.Pieces.{AreLawfulKinds, Piece, is_thread_piece, kept_sections}
use Rattle.elf_model.specs.Link.Placement.{Placed}
use Rattle.elf_model.specs.Link.ThreadStorage.{alignment_of, block_from, is_some_thread_data, thread_block, thread_header}
use Rattle.elf_model.specs.declared.records.ProgramHeader.{ProgramHeader}
use Rattle.elf_model.specs.declared.tls_block.TlsBlock.{TlsBlock}
use Rattle.elf_model.proofs.Blocks.{block_pieces-each}
use Rattle.elf_model.proofs.Listed.{All-from_contains, All-unmap}
use Rattle.elf_model.proofs.OwnOrder.{from_own_order, is_laid_out, own_order, to_own_order}
use Rattle.elf_model.proofs.PieceNumbers.{got_pieces-each}
use Rattle.elf_model.proofs.Places.{All-ordered, InCode, InData, InReadOnly, InThreadRest, at_own_address, initial_aligned, own_code_within, own_data_within, own_placed_pieces, own_read_only_within, own_starts, own_thread_rest_within, some_alignment, thread_start_high}
use Rattle.elf_model.proofs.Running.{end_of-ge}
use Rattle.placing.specs.PlaceViews.{place_view, place_views}
use Rattle.layout.specs.Threads.{block_of, header_in, placed_alignment}
use Rattle.placing.specs.declared.runs.Place.{Place}
use Rattle.layout.proofs.OwnBounds.{started, without_got}

-- the places that memory has room for stand first
pub loaded_front : (places : List Place) (n : ℕ) (loaded rest : List Placed) → place_views places ≡ loaded ++ rest → n ≡ length loaded → place_views (take n places) ≡ loaded
loaded_front places n loaded rest are count =
    sym (take-map place_view n places) ∙ (ap (take n) are ∙ (ap (λ (k : ℕ). take k (loaded ++ rest)) count ∙ take-append_seam loaded rest))

-- the greatest alignment: which pieces stand in a list tells it, and their order doesn't
module _ (test : Piece → Bool) where
  abbrev IsWide : ℕ → Piece → Type 0
  IsWide n p = test p ≡ true → p.align ≤ n

  all_wide : (ps : List Piece) → All (IsWide (alignment_of test ps)) ps
  all_wide [] = All-nil (IsWide 1)
  all_wide (p ∷ ps) = by (test p) refl (all_wide ps)
    where
      by :
          (b : Bool) → test p ≡ b → All (IsWide (alignment_of test ps)) ps →
          All (IsWide (cond b (max p.align (alignment_of test ps)) (alignment_of test ps))) (p ∷ ps)
      by true e rest =
          let n : ℕ = max p.align (alignment_of test ps) in
          All-cons (IsWide n) p ps (λ t. omega arith)
          (All-weaker (IsWide (alignment_of test ps)) (IsWide n) (λ q wide t. let l = wide t in omega (arith, l)) ps rest)
      by false e rest = All-cons (IsWide (alignment_of test ps)) p ps (λ t. absurd (false≢true (sym e ∙ t))) rest

  least_wide : (n : ℕ) (ps : List Piece) → 0 < n → All (IsWide n) ps → alignment_of test ps ≤ n
  least_wide n [] some all = omega (arith, some)
  least_wide n (p ∷ ps) some all = by (test p) refl (least_wide n ps some (All-tail (IsWide n) p ps all))
    where
      by : (b : Bool) → test p ≡ b → alignment_of test ps ≤ n → cond b (max p.align (alignment_of test ps)) (alignment_of test ps) ≤ n
      by true e rest = let l = All-head (IsWide n) p ps all e in omega (arith, l, rest)
      by false e rest = rest

  abbrev AreAmong : List Piece → List Piece → Type 0
  AreAmong ps qs = (p : Piece) → Contains ps p → test p ≡ true → Contains qs p

  no_wider : (ps qs : List Piece) → AreAmong ps qs → alignment_of test ps ≤ alignment_of test qs
  no_wider ps qs among =
      least_wide (alignment_of test qs) ps (some_alignment test qs)
      (All-from_contains (IsWide (alignment_of test qs)) ps (λ p c t. All-contains (IsWide (alignment_of test qs)) qs p (all_wide qs) (among p c t) t))

  same_alignment : (ps qs : List Piece) → AreAmong ps qs → AreAmong qs ps → alignment_of test ps ≡ alignment_of test qs
  same_alignment ps qs there back =
      let l = no_wider ps qs there in
      let g = no_wider qs ps back in
      omega (arith, l, g)

-- what holds of no block, and of a piece, makes the piece a kept section
pub kept_where :
    (test : Piece → Bool) (objects : List LoadedObject) (p : Piece) → Contains (pieces objects) p →
    All (λ (q : Piece). test q ≡ false) (block_pieces objects) → test p ≡ true → Contains (kept_sections objects) p
kept_where test objects p c blocks is = by (Contains-append_cases (kept_sections objects) (block_pieces objects) p c)
  where
    by : Contains (kept_sections objects) p ⊎ Contains (block_pieces objects) p → Contains (kept_sections objects) p
    by (inl kept) = kept
    by (inr block) = absurd (false≢true (sym (All-contains (λ (q : Piece). test q ≡ false) (block_pieces objects) p blocks block) ∙ is))

-- blocks and the GOT aren't thread-local
block_plain : (b : Block) → is_thread_piece (block_piece b) ≡ false
block_plain b = refl

thread_is_kept : (objects : List LoadedObject) (p : Piece) → Contains (laid_out objects) p → is_thread_piece p ≡ true → Contains (kept_sections objects) p
thread_is_kept objects p c t = by (Contains-append_cases (pieces objects) (got_pieces objects) p c)
  where
    by : Contains (pieces objects) p ⊎ Contains (got_pieces objects) p → Contains (kept_sections objects) p
    by (inl piece) = kept_where is_thread_piece objects p piece (block_pieces-each objects (λ (q : Piece). is_thread_piece q ≡ false) (λ k s there. refl)) t
    by (inr got) =
        absurd (false≢true (sym (All-contains (λ (q : Piece). is_thread_piece q ≡ false) (got_pieces objects) p
        (got_pieces-each objects (λ (q : Piece). is_thread_piece q ≡ false) refl) got) ∙ t))

is_piece : (objects : List LoadedObject) (p : Piece) → Contains (kept_sections objects) p → Contains (pieces objects) p
is_piece objects p c = Contains-append_left (kept_sections objects) (block_pieces objects) p c

order_alignment : (objects : List LoadedObject) → alignment_of is_thread_piece (own_order objects) ≡ alignment_of is_thread_piece (kept_sections objects)
order_alignment objects =
    same_alignment is_thread_piece (own_order objects) (kept_sections objects)
    (λ p c t. thread_is_kept objects p (from_own_order objects p c) t)
    (λ p c t. to_own_order objects p (is_laid_out objects p (is_piece objects p c)))

pieces_alignment : (objects : List LoadedObject) → alignment_of is_thread_piece (pieces objects) ≡ alignment_of is_thread_piece (kept_sections objects)
pieces_alignment objects =
    same_alignment is_thread_piece (pieces objects) (kept_sections objects)
    (λ p c t. thread_is_kept objects p (is_laid_out objects p c) t)
    (λ p c t. is_piece objects p c)

module _ (base : ℕ) (objects : List LoadedObject) where
  same_pieces : (ps : List Piece) → map (λ (q : Placed). q.piece) (map (at_own_address base objects) ps) ≡ ps
  same_pieces [] = refl
  same_pieces (p ∷ ps) = ap (λ (qs : List Piece). p ∷ qs) (same_pieces ps)

  pub own_alignment : placed_alignment (own_placed base objects) ≡ alignment_of is_thread_piece (kept_sections objects)
  own_alignment = ap (alignment_of is_thread_piece) (own_placed_pieces base objects) ∙ order_alignment objects

  listed_alignment : placed_alignment (own_in_load_order base objects) ≡ alignment_of is_thread_piece (kept_sections objects)
  listed_alignment = ap (alignment_of is_thread_piece) (same_pieces (pieces objects)) ∙ pieces_alignment objects

  -- all stand at or above the base
  pub own_above : All (λ q. base ≤ q.at) (own_placed base objects)
  own_above =
      let s = own_starts base objects in
      let t = thread_start_high base objects in
      let e = end_of-ge (thread_start base objects) (initial_pieces objects) (initial_aligned objects) in
      All-append (λ q. base ≤ q.at) (own_loaded base objects) (own_thread_rest base objects)
      (All-append (λ q. base ≤ q.at) (own_read_only base objects) (own_code base objects ++ own_data base objects)
      (All-weaker (InReadOnly base objects) (λ q. base ≤ q.at) (λ q w. omega (arith, w.0)) (own_read_only base objects) (own_read_only_within base objects))
      (All-append (λ q. base ≤ q.at) (own_code base objects) (own_data base objects)
      (All-weaker (InCode base objects) (λ q. base ≤ q.at) (λ q w. omega (arith, w.0, s)) (own_code base objects) (own_code_within base objects))
      (All-weaker (InData base objects) (λ q. base ≤ q.at) (λ q w. omega (arith, w.0, s)) (own_data base objects) (own_data_within base objects))))
      (All-weaker (InThreadRest base objects) (λ q. base ≤ q.at) (λ q w. omega (arith, w.0, s, t, e)) (own_thread_rest base objects) (own_thread_rest_within base objects))

  module _ (kinds : AreLawfulKinds objects) where
    block_same : (start : ℕ) → block_from (own_placed base objects) start ≡ block_from (own_in_load_order base objects) start
    block_same start =
        let ends = without_got base objects kinds is_thread_piece refl in
        let aligned = own_alignment ∙ sym listed_alignment in
        λ i. record { start = start; size = ends i - start; align = aligned i }

    pub threads_same : thread_block (own_placed base objects) ≡ thread_block (own_in_load_order base objects)
    threads_same =
        ap (option_map (block_from (own_placed base objects))) (started base objects kinds is_thread_piece refl)
        ∙ ap (λ f. option_map f (start_of_pieces is_thread_piece (own_in_load_order base objects))) (λ i start. block_same start i)

    header_same : (b : TlsBlock) → thread_header base (own_placed base objects) b ≡ thread_header base (own_in_load_order base objects) b
    header_same b =
        let ends = without_got base objects kinds is_some_thread_data refl in
        λ i. record {
          p_type = 7;
          p_flags = 4;
          p_offset = b.start - base;
          p_vaddr = b.start;
          p_paddr = b.start;
          p_filesz = ends i - b.start;
          p_memsz = b.size;
          p_align = b.align;
        }

    pub headers_same : header_in base (own_placed base objects) ≡ header_in base (own_in_load_order base objects)
    headers_same =
        ap (option_map (thread_header base (own_placed base objects))) threads_same
        ∙ ap (λ f. option_map f (thread_block (own_in_load_order base objects))) (λ i b. header_same b i)

-- without thread-local sections there is no header
abbrev IsPlain : Piece → Type 0
IsPlain p = is_thread_piece p ≡ false

all_plain : (ps : List Piece) → list_any is_thread_piece ps ≡ false → All IsPlain ps
all_plain [] none = All-nil IsPlain
all_plain (p ∷ ps) none = by (is_thread_piece p) refl none (all_plain ps)
  where
    by : (b : Bool) → is_thread_piece p ≡ b → (b || list_any is_thread_piece ps) ≡ false → (list_any is_thread_piece ps ≡ false → All IsPlain ps) → All IsPlain (p ∷ ps)
    by true e f rest = absurd (false≢true (sym f))
    by false e f rest = All-cons IsPlain p ps e (rest f)

no_start : (qs : List Placed) → All (λ (q : Placed). IsPlain q.piece) qs → start_of_pieces is_thread_piece qs ≡ None
no_start [] all = refl
no_start (q ∷ qs) all =
    let rest = start_of_pieces is_thread_piece qs in
    ap (λ (b : Bool). cond b (Some (least_of q.at rest)) rest) (All-head (λ (r : Placed). IsPlain r.piece) q qs all)
    ∙ no_start qs (All-tail (λ (r : Placed). IsPlain r.piece) q qs all)

plain_laid_out : (objects : List LoadedObject) → has_thread_pieces objects ≡ false → All IsPlain (laid_out objects)
plain_laid_out objects none =
    All-append IsPlain (pieces objects) (got_pieces objects)
    (All-append IsPlain (kept_sections objects) (block_pieces objects) (all_plain (kept_sections objects) none)
    (All-map IsPlain block_piece (blocks objects) (All-from_contains (λ (b : Block). IsPlain (block_piece b)) (blocks objects) (λ b c. block_plain b))))
    (got_pieces-each objects IsPlain refl)

pub no_header :
    (base : ℕ) (objects : List LoadedObject) (qs : List Placed) → qs ≡ own_placed base objects → has_thread_pieces objects ≡ false → None ≡ header_in base qs
no_header base objects qs are none =
    let all : All (λ (q : Placed). IsPlain q.piece) (own_placed base objects) =
    All-unmap IsPlain (λ (q : Placed). q.piece) (own_placed base objects)
    (subst (All IsPlain) (sym (own_placed_pieces base objects)) (All-ordered IsPlain objects (plain_laid_out objects none))) in
    let no_place : start_of_pieces is_thread_piece qs ≡ None = ap (start_of_pieces is_thread_piece) are ∙ no_start (own_placed base objects) all in
    sym (ap (λ (o : Option ℕ). option_map (thread_header base qs) (option_map (block_from qs) o)) no_place)

-- the block of which a PT_TLS tells
pub told_block : (base : ℕ) (qs : List Placed) (header : Option ProgramHeader) → header ≡ header_in base qs → option_map block_of header ≡ thread_block qs
told_block base qs header is = ap (option_map block_of) is ∙ by (thread_block qs)
  where
    by : (b : Option TlsBlock) → option_map block_of (option_map (thread_header base qs) b) ≡ b
    by None = refl
    by (Some b) = refl

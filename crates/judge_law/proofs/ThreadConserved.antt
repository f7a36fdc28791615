-- The block of thread-local storage of a link that the profile's check accepts is right for a judge.
use Rattle.std.proofs.Common.{arith, inl, inr, refl, subst, sym}
use Rattle.std.specs.Prelude.{◌≡◌, ◌⊎◌, ◌+◌, ◌<◌, ◌≤◌, ℕ, true, List, [], ◌∷◌, Option, None, Some, All, Any, Contains, length}
use Rattle.std.specs.Option.{option_map, option_map_or}
use Rattle.std.proofs.lemmas.Bool.{and_parts, cases_lt, eqb-true}
use Rattle.std.proofs.lemmas.List.Elements.{All-cons, All-contains, All-nil}
use Rattle.elf_model.proofs.Finding.{Any-from_contains, Any-here, Any-there}
use Rattle.elf_model.proofs.Listed.{Contains-from_filter, Contains-here}
use Rattle.elf_model.proofs.PieceBounds.{EndsBy, IsStart, all_end, start_is}
use Rattle.elf_model.specs.Image.MemoryImage.{Encloses, IsGoodLoad, IsGoodThreadBlock, first_address, is_thread_block, loads, program_headers, thread_blocks}
use Rattle.elf_model.specs.Image.RightLink as right
use Rattle.elf_model.specs.Image.RightLink.{Subject}
use Rattle.elf_model.specs.Link.LinkerValues.{end_of_pieces, start_of_pieces}
use Rattle.elf_model.specs.Link.Pieces.{is_thread_piece}
use Rattle.elf_model.specs.Link.Placement.{Placed}
use Rattle.elf_model.specs.Link.ThreadStorage.{block_from, thread_header}
use Rattle.elf_model.specs.declared.records.ProgramHeader.{ProgramHeader}
use Rattle.elf_model.specs.declared.verdict.Clause.{Clause}
use Rattle.elf_model.specs.declared.verdict.Clause.TheVariants.{C4, C8}
use Rattle.judge_model.specs.Links.{placed_of}
use Rattle.judge_model.specs.ThreadBlocks.{HasInitial, HoldsInitial, IsThreadBlockRight, IsThreadHeader, is_some_thread}
use Rattle.judge_law.proofs.SameParts.{AreInOrder, placed_same}
use Rattle.judge_law.specs.Conservative.{foreign_of}

-- what one claim gives another for each element
any_more : {X : Type 0} (P Q : X → Type 0) (xs : List X) → ((x : X) → Contains xs x → P x → Q x) → Any P xs → Any Q xs
any_more P Q xs more (i, x, low, is, p) = Any-from_contains Q xs x (i, low, is) (more x (i, low, is) p)

-- the block begins before it ends
start_below : (qs : List Placed) (a : ℕ) → IsStart is_thread_piece (Some a) qs → a ≤ end_of_pieces is_thread_piece qs
start_below qs a start =
    let q = start.1.0 in
    let end = All-contains (EndsBy is_thread_piece (end_of_pieces is_thread_piece qs)) qs q (all_end is_thread_piece qs) start.1.1 start.1.2 in
    let is = start.1.3 in
    omega (arith, end, is)

module _ (s : Subject) (order : AreInOrder s) (holds : (c : Clause) → right.Holds c s) where
  abbrev qs : List Placed
  qs = right.placed_of s

  -- the one header
  abbrev header : ℕ → ProgramHeader
  header a = thread_header s.plan.base qs (block_from qs a)

  good_block : (h : ProgramHeader) → Contains (thread_blocks s.image) h → IsGoodThreadBlock (first_address (loads s.image)) h
  good_block h c =
      let there = Contains-from_filter is_thread_block (program_headers s.image) h c in
      All-contains (λ (h : ProgramHeader). h.p_type ≡ 7 → IsGoodThreadBlock (first_address (loads s.image)) h) (program_headers s.image) h
      (holds C4).segments.thread_blocks there.0 (eqb-true h.p_type 7 there.1)

  good_load : (g : ProgramHeader) → Contains (loads s.image) g → IsGoodLoad (first_address (loads s.image)) (length s.image) g
  good_load g c = All-contains (IsGoodLoad (first_address (loads s.image)) (length s.image)) (loads s.image) g (holds C4).segments.segments c

  same_offset : (h g : ProgramHeader) → Contains (thread_blocks s.image) h → Contains (loads s.image) g → h.p_offset + g.p_vaddr ≡ g.p_offset + h.p_vaddr
  same_offset h g c d =
      let a = (good_block h c).offset in
      let b = (good_load g d).offset in
      omega (arith, a, b)

  initial_there : (h : ProgramHeader) → Contains (thread_blocks s.image) h → HasInitial (loads s.image) h
  initial_there h c = by (cases_lt 0 h.p_filesz)
    where
      by : (0 < h.p_filesz) ⊎ (h.p_filesz ≤ 0) → HasInitial (loads s.image) h
      by (inl some) =
          inl
          (any_more (λ g. Encloses g h.p_vaddr h.p_filesz) (HoldsInitial h) (loads s.image) (λ g d inside. (same_offset h g c d, inside))
          (All-contains (right.HoldsInitial (loads s.image)) (thread_blocks s.image) h (holds C8).held c some))
      by (inr none) = inr (omega (arith, none))

  right_header : (a : ℕ) → start_of_pieces is_thread_piece qs ≡ Some a → Contains (thread_blocks s.image) (header a) → IsThreadHeader s.image qs (header a)
  right_header a e c = record {
    low = let l = (good_block (header a) c).end in omega (arith, l);
    power = (good_block (header a) c).align;
    aligned = (good_block (header a) c).aligned;
    block = inl (record {
      start = e;
      end = inl (let l = start_below qs a (subst (λ o. IsStart is_thread_piece o qs) e (start_is is_thread_piece qs)) in omega (arith, l));
      align = refl;
    });
    initial = omega arith;
    segment = initial_there (header a) c;
  }

  each_by :
      (o : Option ℕ) → start_of_pieces is_thread_piece qs ≡ o
      → thread_blocks s.image ≡ option_map_or (λ b. thread_header s.plan.base qs b ∷ []) (option_map (block_from qs) o) []
      → All (IsThreadHeader s.image qs) (thread_blocks s.image)
      × (Any (λ q. is_some_thread q.piece ≡ true) qs → Any (IsThreadHeader s.image qs) (thread_blocks s.image))
  each_by None e is = (
    subst (All (IsThreadHeader s.image qs)) (sym is) (All-nil (IsThreadHeader s.image qs)),
    λ (i, q, low, at, some).
        absurd
        (All-contains (λ (q : Placed). is_thread_piece q.piece ≡ true → ⊥) qs q
        (subst (λ o. IsStart is_thread_piece o qs) e (start_is is_thread_piece qs)) (i, low, at) (and_parts _ _ some).0),
  )
  each_by (Some a) e is =
      let there : Contains (thread_blocks s.image) (header a) = subst (λ hs. Contains hs (header a)) (sym is) (Contains-here [] (header a)) in
      let here = right_header a e there in (
        subst (All (IsThreadHeader s.image qs)) (sym is)
            (All-cons (IsThreadHeader s.image qs) (header a) [] here (All-nil (IsThreadHeader s.image qs))),
        λ some. Any-from_contains (IsThreadHeader s.image qs) (thread_blocks s.image) (header a) there here,
      )

  pub thread_block_right : IsThreadBlockRight s.image (placed_of (foreign_of s))
  thread_block_right =
      let both = each_by (start_of_pieces is_thread_piece qs) refl (holds C8).headers in
      subst (IsThreadBlockRight s.image) (sym (placed_same s order holds)) (record {
        some = both.1;
        each = both.0;
        before = (holds C8).before;
      })

-- The section headers of the own image, whatever stands behind its last file part, tell what memory has.
use Rattle.std.proofs.Common.{◌≡◌, ℕ, ◌+◌, ◌-◌, ◌%◌, ◌<◌, ◌≤◌, Bool, true, false, cond, not, List, [], ◌∷◌, ◌++◌, map, refl, sym, ◌∙◌, ap, subst, arith}
use Rattle.std.specs.Prelude.{All, Any, Contains, Some, find, nat_lt, option_map, slice_index}
use Rattle.std.proofs.lemmas.Bool.{and_parts, false_from_ne_true, lt-ltb, ltb-true}
use Rattle.std.proofs.lemmas.List.Elements.{All-append, All-cons, All-contains, All-map, All-nil, All-weaker}
use Rattle.elf_model.specs.Image.MemoryImage.{Encloses, cell_of, loads, maps, segment_byte, thread_blocks}
use Rattle.elf_model.specs.Inputs.Command.{IsBase}
use Rattle.elf_model.specs.Inputs.ObjectFile.{sections}
use Rattle.elf_model.specs.Link.Commons.{block_pieces}
use Rattle.elf_model.specs.Link.Loading.{AreObjects, LoadedObject, is_dropped}
use Rattle.elf_model.specs.Link.Pieces.{AreLawfulKinds, is_alloc, is_kept, is_nobits, is_thread_local, kept_sections, piece_of, pieces_from, pieces_of}
use Rattle.elf_model.specs.Link.Placement.{Placed}
use Rattle.elf_model.specs.Own.ImageFile.{HeaderFields}
use Rattle.elf_model.specs.Own.OwnLayout.{IsNotTooLarge, got_pieces, laid_out, own_address, own_headers_size, own_in_load_order, own_laid_out, own_segments}
use Rattle.elf_model.specs.Link.ThreadStorage.{thread_headers}
use Rattle.elf_model.specs.declared.records.ProgramHeader.{ProgramHeader}
use Rattle.elf_model.specs.declared.records.SectionHeader.{SectionHeader}
use Rattle.elf_model.proofs.Addresses.{maps-true}
use Rattle.elf_model.proofs.Blocks.{block_pieces-each}
use Rattle.elf_model.proofs.Listed.{find_only}
use Rattle.elf_model.proofs.Pairs.{AllPairs-map}
use Rattle.elf_model.proofs.PieceNumbers.{got_pieces-each}
use Rattle.elf_model.proofs.Places.{are_own_placed}
use Rattle.own_link.proofs.Bytes.{one_segment}
use Rattle.own_link.proofs.ImageOwn.{good_segments}
use Rattle.own_link.proofs.ImageRead.{FitFields}
use Rattle.own_link.proofs.SegmentHeaders.{AreOwnSegments}
use Rattle.debug_image.specs.MappedSections.{AreMapped, HoldsSection, LiesIn, StandsBefore, is_thread_zero, section_byte}
use Rattle.debug_image.specs.Sections.{Section, header_of}
use Rattle.debug_image.proofs.MappedRuns.{keeps_flags, own_sections, own_sections-each, sections_aligned, sections_lie, sections_rise, sections_some, threads_lie}
use Rattle.debug_image.proofs.OwnHeaders.{blocks_read, image_with, loads_read}

-- A section that lies in a segment is held by memory.
module _ (base size : ℕ) (hs : List ProgramHeader) (own : AreOwnSegments base size hs) (file : List ℕ) (loads_are : loads file ≡ hs) (h : SectionHeader) where
  byte_held : (g : ProgramHeader) (k : ℕ) → LiesIn h g → k < h.sh_size → segment_byte file g (h.sh_addr + k) ≡ section_byte file h k
  byte_held g k lies within = by (is_nobits h) refl
    where
      at : ℕ
      at = h.sh_addr + k - g.p_vaddr

      low : g.p_vaddr ≤ h.sh_addr
      low = lies.memory.0

      by :
          (b : Bool) → is_nobits h ≡ b →
          cond (nat_lt at g.p_filesz) (slice_index file (g.p_offset + at)) 0 ≡ cond b 0 (slice_index file (h.sh_offset + k))
      by false has =
          let e = lies.bytes has in
          let o = lies.offset in
          let inside : nat_lt at g.p_filesz ≡ true = lt-ltb at g.p_filesz (omega (arith, e, low, within)) in
          let place : g.p_offset + at ≡ h.sh_offset + k = omega (arith, o, low) in
          ap (λ (b : Bool). cond b (slice_index file (g.p_offset + at)) 0) inside ∙ ap (slice_index file) place
      by true bare =
          let z = lies.zeros bare in
          let behind : nat_lt at g.p_filesz ≡ false = false_from_ne_true (nat_lt at g.p_filesz) (λ e. let l = ltb-true at g.p_filesz e in omega (arith, l, z, low)) in
          ap (λ (b : Bool). cond b (slice_index file (g.p_offset + at)) 0) behind

  pub held_in : (g : ProgramHeader) → Contains hs g → LiesIn h g → HoldsSection file h
  held_in g there lies k within =
      let a : ℕ = h.sh_addr + k in
      let m = lies.memory in
      let mine : maps g a ≡ true = maps-true g a (omega (arith, m)) (omega (arith, m, within)) in
      let found : find (λ x. maps x a) hs ≡ Some g = find_only (λ x. maps x a) hs g there mine (λ y c d. one_segment base size hs own a y g c there d mine) in
      ap (λ (gs : List ProgramHeader). option_map (cell_of file a) (find (λ x. maps x a) gs)) loads_are
      ∙ (ap (option_map (cell_of file a)) found
      ∙ (λ i. Some (record { byte = byte_held g k lies within i; rights = lies.rights i })))

  pub held : Any (LiesIn h) hs → HoldsSection file h
  held lies = held_in lies.1 (lies.0, lies.2, lies.3) lies.4

-- all pieces have the flag ALLOC
from_alloc : (k i : ℕ) (o : LoadedObject) (hs : List SectionHeader) → All (λ p. is_alloc p.header ≡ true) (pieces_from k o i hs)
from_alloc k i o [] = All-nil (λ p. is_alloc p.header ≡ true)
from_alloc k i o (h ∷ hs) = by (is_kept o i h) refl (from_alloc k (i + 1) o hs)
  where
    by :
        (b : Bool) → is_kept o i h ≡ b → All (λ p. is_alloc p.header ≡ true) (pieces_from k o (i + 1) hs) →
        All (λ p. is_alloc p.header ≡ true) (cond b (piece_of k o.bytes i h ∷ pieces_from k o (i + 1) hs) (pieces_from k o (i + 1) hs))
    by true kept rest =
        All-cons (λ p. is_alloc p.header ≡ true) (piece_of k o.bytes i h) (pieces_from k o (i + 1) hs) (and_parts (is_alloc h) (not (is_dropped o i)) kept).0 rest
    by false kept rest = rest

of_alloc : (k : ℕ) (os : List LoadedObject) → All (λ p. is_alloc p.header ≡ true) (pieces_of k os)
of_alloc k [] = All-nil (λ p. is_alloc p.header ≡ true)
of_alloc k (o ∷ os) =
    All-append (λ p. is_alloc p.header ≡ true) (pieces_from k o 0 (sections o.bytes)) (pieces_of (k + 1) os)
    (from_alloc k 0 o (sections o.bytes)) (of_alloc (k + 1) os)

all_alloc : (objects : List LoadedObject) → All (λ p. is_alloc p.header ≡ true) (laid_out objects)
all_alloc objects =
    All-append (λ p. is_alloc p.header ≡ true) (kept_sections objects ++ block_pieces objects) (got_pieces objects)
    (All-append (λ p. is_alloc p.header ≡ true) (kept_sections objects) (block_pieces objects)
    (of_alloc 0 objects) (block_pieces-each objects (λ p. is_alloc p.header ≡ true) (λ k s c. refl)))
    (got_pieces-each objects (λ p. is_alloc p.header ≡ true) refl)

module _ (base : ℕ) (objects : List LoadedObject) (kinds : AreLawfulKinds objects) (based : IsBase base) (fits : IsNotTooLarge base objects) (good : AreObjects objects) where
  abbrev pub own_headers : List SectionHeader
  own_headers = map (header_of base) (own_sections base objects kinds)

  -- the headers of sections have the flag ALLOC
  pub own_alloc : All (λ h. is_alloc h ≡ true) own_headers
  own_alloc =
      All-map (λ (h : SectionHeader). is_alloc h ≡ true) (header_of base) (own_sections base objects kinds)
      (own_sections-each base objects kinds (λ s. is_alloc (header_of base s) ≡ true) (λ s run long.
      (keeps_flags base s).alloc
      ∙ All-contains (λ (q : Placed). is_alloc q.piece.header ≡ true) (own_laid_out base objects) s.first
      (All-map (λ (q : Placed). is_alloc q.piece.header ≡ true) (λ p. record { at = own_address base objects p; piece = p }) (laid_out objects) (all_alloc objects))
      ((are_own_placed base objects kinds).all s.first run.first)))

  pub own_mapped : (f : HeaderFields) (tail : List ℕ) → FitFields f → AreMapped (image_with base objects kinds based fits good f tail) own_headers
  own_mapped f tail fit =
      let file : List ℕ = image_with base objects kinds based fits good f tail in
      let ss : List Section = own_sections base objects kinds in
      let loads_are : loads file ≡ own_segments base objects = loads_read base objects kinds based fits good f tail fit in
      let own = good_segments base objects kinds based fits (are_own_placed base objects kinds) good in
      record {
        some = All-map (λ (h : SectionHeader). 0 < h.sh_size) (header_of base) ss (sections_some base objects kinds);
        aligned = All-map (λ (h : SectionHeader). h.sh_addr % h.sh_addralign ≡ 0) (header_of base) ss (sections_aligned base objects kinds);
        lie =
            All-map (λ (h : SectionHeader). is_thread_zero h ≡ false → Any (LiesIn h) (loads file)) (header_of base) ss
            (All-weaker (λ s. is_thread_zero (header_of base s) ≡ false → Any (LiesIn (header_of base s)) (own_segments base objects))
            (λ s. is_thread_zero (header_of base s) ≡ false → Any (LiesIn (header_of base s)) (loads file))
            (λ s lies whole. subst (λ (hs : List ProgramHeader). Any (LiesIn (header_of base s)) hs) (sym loads_are) (lies whole)) ss
            (sections_lie base objects kinds));
        threads =
            All-map (λ (h : SectionHeader). is_thread_local h ≡ true → Any (λ g. Encloses g h.sh_addr h.sh_size) (thread_blocks file)) (header_of base) ss
            (All-weaker (λ s. is_thread_local (header_of base s) ≡ true → Any (λ g. Encloses g (header_of base s).sh_addr (header_of base s).sh_size) (thread_headers base (own_in_load_order base objects)))
            (λ s. is_thread_local (header_of base s) ≡ true → Any (λ g. Encloses g (header_of base s).sh_addr (header_of base s).sh_size) (thread_blocks file))
            (λ s lies t. subst (λ (hs : List ProgramHeader). Any (λ g. Encloses g (header_of base s).sh_addr (header_of base s).sh_size) hs) (sym (blocks_read base objects kinds based fits good f tail fit)) (lies t)) ss
            (threads_lie base objects kinds));
        held =
            All-map (λ (h : SectionHeader). is_thread_zero h ≡ false → HoldsSection file h) (header_of base) ss
            (All-weaker (λ s. is_thread_zero (header_of base s) ≡ false → Any (LiesIn (header_of base s)) (own_segments base objects))
            (λ s. is_thread_zero (header_of base s) ≡ false → HoldsSection file (header_of base s))
            (λ s lies whole. held base (own_headers_size objects) (own_segments base objects) own file loads_are (header_of base s) (lies whole)) ss
            (sections_lie base objects kinds));
        rising = AllPairs-map StandsBefore (header_of base) ss (sections_rise base objects kinds);
      }

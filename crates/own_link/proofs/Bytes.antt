-- What memory has of the own image, address by address: in a segment's file part the image's byte, else 0.
use Rattle.std.proofs.Common.{◌≡◌, ℕ, ◌+◌, ◌-◌, ◌<◌, ◌≤◌, ◌&&◌, ◌⊎◌, inl, inr, Bool, true, false, cond, List, refl, sym, ◌∙◌, ap, subst, arith}
use Rattle.std.specs.Prelude.{All, AllPairs, Contains, Option, Some, None, find, option_map, nat_le, nat_lt, unwrap_or, ◌==◌}
use Rattle.std.proofs.lemmas.Bool.{and_from, and_parts, eqb-true, eqb-false, false_from_ne_true, le-leb, le-ltb, leb-true, lt-ltb, ltb-true}
use Rattle.std.proofs.lemmas.List.Elements.{All-contains}
use Rattle.std.proofs.lemmas.List.Folds.{list_any-from_Any, list_any_none}
use Rattle.std.proofs.lemmas.Option.{none-some, same_Some}
use Rattle.elf_model.specs.Own.ImageFile.{HeaderFields, covers_address, fill_at, is_code_part}
use Rattle.elf_model.specs.Image.MemoryImage.{Cell, cell_of, file_end, maps, memory_of, segment_byte}
use Rattle.elf_model.specs.Own.OwnLayout.{placed_end}
use Rattle.elf_model.specs.Link.Placement.{Placed}
use Rattle.elf_model.specs.Image.RightLink.{fill_of}
use Rattle.elf_model.specs.declared.records.ProgramHeader.{ProgramHeader}
use Rattle.elf_model.proofs.Addresses.{mapped, maps-true}
use Rattle.own_link.proofs.Ends.{FileEndsBelow, file_end-holds}
use Rattle.elf_model.proofs.Finding.{Any-from_contains, find-found, find-none}
use Rattle.own_link.proofs.ImageRead.{IsOwnFile}
use Rattle.own_link.proofs.ImageRight.{loads_are}
use Rattle.elf_model.proofs.Listed.{All-from_contains, find_only}
use Rattle.elf_model.proofs.Pairs.{related}
use Rattle.own_link.proofs.SegmentHeaders.{AreOwnSegments, IsBelow, IsGoodSegment}

-- the byte that stands for an address: what is wanted of the piece there, or fill
abbrev pub byte_here : (Placed → ℕ → ℕ) → List ProgramHeader → List Placed → ℕ → ℕ
byte_here want hs placed a =
    unwrap_or (option_map (λ q. want q (a - q.at)) (find (covers_address a) placed)) (fill_at hs a)

-- the tests as numbers
pub covered : (a : ℕ) (q : Placed) → covers_address a q ≡ true → (q.at ≤ a) × (a < placed_end q)
covered a q e =
    let p = and_parts (nat_le q.at a) (nat_lt a (placed_end q)) e in
    (leb-true q.at a p.0, ltb-true a (placed_end q) p.1)

pub covers-true : (a : ℕ) (q : Placed) → q.at ≤ a → a < placed_end q → covers_address a q ≡ true
covers-true a q low high =
    and_from (nat_le q.at a) (nat_lt a (placed_end q)) (le-leb q.at a low) (lt-ltb a (placed_end q) high)

-- an address in an executable segment's file part
record IsInCode (a : ℕ) (h : ProgramHeader) : Type 0 where
  flags : h.p_flags ≡ 5
  low : h.p_vaddr ≤ a
  high : a < h.p_vaddr + h.p_filesz

in_code : (a : ℕ) (h : ProgramHeader) → is_code_part a h ≡ true → IsInCode a h
in_code a h e =
    let p = and_parts (h.p_flags == 5) (nat_le h.p_vaddr a && nat_lt a (h.p_vaddr + h.p_filesz)) e in
    let q = and_parts (nat_le h.p_vaddr a) (nat_lt a (h.p_vaddr + h.p_filesz)) p.1 in
    record {
      flags = eqb-true h.p_flags 5 p.0;
      low = leb-true h.p_vaddr a q.0;
      high = ltb-true a (h.p_vaddr + h.p_filesz) q.1;
    }

-- the bytes of pieces that stand apart, and the fill between them
module _ (want : Placed → ℕ → ℕ) (hs : List ProgramHeader) (placed : List Placed) where
  pub piece_byte :
      AllPairs (λ p q. (placed_end p ≤ q.at) ⊎ (placed_end q ≤ p.at)) placed →
      (q : Placed) (k : ℕ) → Contains placed q → k < q.piece.size →
      byte_here want hs placed (q.at + k) ≡ want q k
  piece_byte apart q k there within =
      let found : find (covers_address (q.at + k)) placed ≡ Some q =
      find_only (covers_address (q.at + k)) placed q there (covers-true (q.at + k) q (omega arith) (omega (arith, within))) only in
      let same : (q.at + k) - q.at ≡ k = omega arith in
      rw (found, same) refl
    where
      only : (p : Placed) → Contains placed p → covers_address (q.at + k) p ≡ true → p ≡ q
      only p c e =
          by (related (λ (x y : Placed). (placed_end x ≤ y.at) ⊎ (placed_end y ≤ x.at)) placed p q apart c there)
          (covered (q.at + k) p e)
        where
          by :
              (p ≡ q) ⊎ (((placed_end p ≤ q.at) ⊎ (placed_end q ≤ p.at)) ⊎ ((placed_end q ≤ p.at) ⊎ (placed_end p ≤ q.at))) →
              (p.at ≤ q.at + k) × (q.at + k < placed_end p) → p ≡ q
          by (inl e) m = e
          by (inr r) m = absurd (omega (arith, r, m, within))

  pub bare_byte : (a : ℕ) → All (λ q. covers_address a q ≡ false) placed → byte_here want hs placed a ≡ fill_at hs a
  bare_byte a none = let e = find-none (covers_address a) placed none in rw e refl

  -- a byte is what is wanted of a piece that covers its address, or fill
  pub byte_cases :
      (P : ℕ → Type 0) (a : ℕ) →
      ((q : Placed) → Contains placed q → q.at ≤ a → a < placed_end q → P (want q (a - q.at))) → P (fill_at hs a) →
      P (byte_here want hs placed a)
  byte_cases P a piece fill = by (find (covers_address a) placed) refl
    where
      by :
          (o : Option Placed) → find (covers_address a) placed ≡ o →
          P (unwrap_or (option_map (λ q. want q (a - q.at)) o) (fill_at hs a))
      by None e = fill
      by (Some q) e =
          let f = find-found (covers_address a) placed q e in
          let c = covered a q f.passes in
          piece q f.there c.0 c.1

-- fill at an address in no file part
pub no_fill : (hs : List ProgramHeader) (a : ℕ) → All (λ h. h.p_vaddr ≤ a → h.p_vaddr + h.p_filesz ≤ a) hs → fill_at hs a ≡ 0
no_fill hs a out =
    let none : All (λ h. is_code_part a h ≡ false) hs =
    All-from_contains (λ (h : ProgramHeader). is_code_part a h ≡ false) hs (λ h there.
    false_from_ne_true (is_code_part a h) (λ e.
    let c = in_code a h e in
    let o = All-contains (λ (g : ProgramHeader). g.p_vaddr ≤ a → g.p_vaddr + g.p_filesz ≤ a) hs h out there c.low in
    let u = c.high in
    omega (arith, o, u))) in
    let e = list_any_none (is_code_part a) hs none in
    rw e refl

module _ (base size : ℕ) (hs : List ProgramHeader) (own : AreOwnSegments base size hs) where
  -- segments that share an address are one
  pub one_segment : (a : ℕ) (g h : ProgramHeader) → Contains hs g → Contains hs h → maps g a ≡ true → maps h a ≡ true → g ≡ h
  one_segment a g h c d e f = by (related IsBelow hs g h own.rising c d) (mapped g a e) (mapped h a f)
    where
      by :
          (g ≡ h) ⊎ (IsBelow g h ⊎ IsBelow h g) → (g.p_vaddr ≤ a) × (a < g.p_vaddr + g.p_memsz) →
          (h.p_vaddr ≤ a) × (a < h.p_vaddr + h.p_memsz) → g ≡ h
      by (inl e) m n = e
      by (inr (inl below)) m n = absurd (omega (arith, below, m, n))
      by (inr (inr below)) m n = absurd (omega (arith, below, m, n))

  -- the fill in a segment's file part
  pub fill_in_segment :
      (a : ℕ) (h : ProgramHeader) → Contains hs h → h.p_vaddr ≤ a → a < h.p_vaddr + h.p_filesz → fill_at hs a ≡ fill_of h.p_flags
  fill_in_segment a h there low high = by (h.p_flags == 5) refl
    where
      good : IsGoodSegment base h
      good = All-contains (IsGoodSegment base) hs h own.each there

      mine : maps h a ≡ true
      mine = maps-true h a low (let f = good.file_in_memory in omega (arith, high, f))

      by : (b : Bool) → (h.p_flags == 5) ≡ b → fill_at hs a ≡ cond b 0x90 0
      by true e =
          let c : is_code_part a h ≡ true =
          and_from (h.p_flags == 5) (nat_le h.p_vaddr a && nat_lt a (h.p_vaddr + h.p_filesz)) e
          (and_from (nat_le h.p_vaddr a) (nat_lt a (h.p_vaddr + h.p_filesz)) (le-leb h.p_vaddr a low) (lt-ltb a (h.p_vaddr + h.p_filesz) high)) in
          let l = list_any-from_Any (is_code_part a) hs (Any-from_contains (λ (g : ProgramHeader). is_code_part a g ≡ true) hs h there c) in
          rw l refl
      by false e =
          let none : All (λ g. is_code_part a g ≡ false) hs =
          All-from_contains (λ (g : ProgramHeader). is_code_part a g ≡ false) hs (λ g c.
          false_from_ne_true (is_code_part a g) (λ t.
          let n = in_code a g t in
          let f = (All-contains (IsGoodSegment base) hs g own.each c).file_in_memory in
          let s : g ≡ h = one_segment a g h c there (maps-true g a n.low (let u = n.high in omega (arith, u, f))) mine in
          eqb-false h.p_flags 5 e (sym (ap (λ (x : ProgramHeader). x.p_flags) s) ∙ n.flags))) in
          let l = list_any_none (is_code_part a) hs none in
          rw l refl

  -- what is read of the file
  module _ (image : List ℕ) (fields : HeaderFields) (count : ℕ) (byte : ℕ → ℕ) (file : IsOwnFile image fields count base size hs byte) where
    -- memory has the cell of the segment that maps an address
    pub memory_at : (a : ℕ) (h : ProgramHeader) → Contains hs h → maps h a ≡ true → memory_of image a ≡ Some (cell_of image a h)
    memory_at a h there e =
        let found = find_only (λ (g : ProgramHeader). maps g a) hs h there e (λ g c f. one_segment a g h c there f e) in
        ap (λ (gs : List ProgramHeader). option_map (cell_of image a) (find (λ g. maps g a) gs))
        (loads_are base size hs own image fields count byte file)
        ∙ ap (option_map (cell_of image a)) found

    -- a cell of memory is that of a segment that maps the address
    pub cell_cases :
        (P : Cell → Type 0) (a : ℕ) (c : Cell) → memory_of image a ≡ Some c →
        ((h : ProgramHeader) → Contains hs h → maps h a ≡ true → P (cell_of image a h)) → P c
    cell_cases P a c m each =
        by (find (λ (g : ProgramHeader). maps g a) hs) refl
        (sym (ap (λ (gs : List ProgramHeader). option_map (cell_of image a) (find (λ g. maps g a) gs))
        (loads_are base size hs own image fields count byte file)) ∙ m)
      where
        by : (o : Option ProgramHeader) → find (λ (g : ProgramHeader). maps g a) hs ≡ o → option_map (cell_of image a) o ≡ Some c → P c
        by None e n = absurd (none-some c n)
        by (Some h) e n =
            let f = find-found (λ (g : ProgramHeader). maps g a) hs h e in
            subst P (same_Some (cell_of image a h) c n) (each h f.there f.passes)

    -- in the file part behind the headers it has the image's byte
    pub file_byte :
        (a : ℕ) (h : ProgramHeader) → Contains hs h → h.p_vaddr ≤ a → a < h.p_vaddr + h.p_filesz → base + size ≤ a →
        segment_byte image h a ≡ byte a
    file_byte a h there low high behind =
        let t = lt-ltb (a - h.p_vaddr) h.p_filesz (omega (arith, low, high)) in
        let o = (All-contains (IsGoodSegment base) hs h own.each there).offset in
        let i : h.p_offset + (a - h.p_vaddr) ≡ a - base = omega (arith, o, low) in
        let e = All-contains (FileEndsBelow (file_end hs)) hs h (file_end-holds hs (file_end hs) (omega arith)) there (omega (arith, low, high)) in
        let b = file.bytes (a - base) (omega (arith, behind)) (omega (arith, e, o, low, high)) in
        let j : base + (a - base) ≡ a = omega (arith, behind) in
        rw (t, i) (b ∙ ap byte j)

    -- behind the file part it has 0
    pub zero_byte : (a : ℕ) (h : ProgramHeader) → h.p_vaddr + h.p_filesz ≤ a → segment_byte image h a ≡ 0
    zero_byte a h behind = let t = le-ltb (a - h.p_vaddr) h.p_filesz (omega (arith, behind)) in rw t refl

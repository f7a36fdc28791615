-- The program headers of good segments.
use Rattle.std.proofs.Common.{◌≡◌, ℕ, ◌+◌, ◌-◌, ◌%◌, ◌^◌, ◌<◌, ◌≤◌, ◌⊎◌, inl, inr, true, List, ◌∷◌, length, get_or, refl, ◌∙◌, ap, subst, arith}
use Rattle.std.specs.Prelude.{All, AllPairs, Contains, filter}
use Rattle.std.proofs.lemmas.List.Elements.{All-contains, All-filter, filter_passes}
use Rattle.std.proofs.lemmas.List.Kept.{AllPairs-filter}
use Rattle.elf_model.specs.Own.OwnLayout.{placed_has_bytes}
use Rattle.elf_model.specs.declared.records.ProgramHeader.{ProgramHeader}
use Rattle.own_link.proofs.Ends.{greatest_end-from, greatest_end-less, greatest_end-same}
use Rattle.elf_model.proofs.Listed.{All-from_contains, Contains-filter, Contains-from_filter, Contains-from_map, Contains-map}
use Rattle.elf_model.proofs.Pairs.{AllPairs-map}
use Rattle.own_link.proofs.Segments.{AreGoodParts, IsGoodPart, Part, part_end, part_file_end, part_header, segments_of}

-- what is known of the header of a segment
pub record IsGoodSegment (base : ℕ) (h : ProgramHeader) : Type 0 where
  pub type_ : h.p_type ≡ 1
  pub rights_low : 4 ≤ h.p_flags
  pub rights_high : h.p_flags ≤ 6
  pub align : h.p_align ≡ 4096
  pub physical : h.p_paddr ≡ h.p_vaddr
  pub page : h.p_vaddr % 4096 ≡ 0
  pub some : 0 < h.p_memsz
  pub file_in_memory : h.p_filesz ≤ h.p_memsz
  pub end : h.p_vaddr + h.p_memsz ≤ 2 ^ 46
  pub offset : h.p_offset + base ≡ h.p_vaddr
  pub code : h.p_flags ≡ 5 → h.p_filesz ≡ h.p_memsz

-- one segment ends before another begins
abbrev pub IsBelow : ProgramHeader → ProgramHeader → Type 0
IsBelow g h = g.p_vaddr + g.p_memsz ≤ h.p_vaddr

-- what is known of all of them: the first holds the headers
pub record AreOwnSegments (base size : ℕ) (hs : List ProgramHeader) : Type 0 where
  pub each : All (IsGoodSegment base) hs
  pub rising : AllPairs IsBelow hs
  pub first : ProgramHeader
  pub others : List ProgramHeader
  pub segments_are : hs ≡ first ∷ others
  pub first_address : first.p_vaddr ≡ base
  pub first_holds : size ≤ first.p_filesz

-- where a segment's pieces begin, and its ends in the header's numbers
pub part_from : (base size : ℕ) (p : Part) → IsGoodPart base size p → (base + size ≤ p.from) × (p.start ≤ p.from)
part_from base size p good = by good.begins
  where
    by : ((p.start ≡ base) × (p.from ≡ base + size)) ⊎ ((p.from ≡ p.start) × (base + size ≤ p.start)) → (base + size ≤ p.from) × (p.start ≤ p.from)
    by (inl front) = (omega (arith, front), omega (arith, front))
    by (inr later) = (omega (arith, later), omega (arith, later))

pub part_memory_end : (base size : ℕ) (p : Part) → IsGoodPart base size p → p.there ≡ true → (part_header base p).p_vaddr + (part_header base p).p_memsz ≡ part_end p
part_memory_end base size p good there = let s = good.some there in omega (arith, s)

pub part_file_ends : (base size : ℕ) (p : Part) → IsGoodPart base size p → (part_header base p).p_vaddr + (part_header base p).p_filesz ≡ part_file_end p
part_file_ends base size p good =
    let f = part_from base size p good in
    let g = greatest_end-from placed_has_bytes p.from p.placed in
    omega (arith, f, g)

pub good_segment : (base size : ℕ) (p : Part) → IsGoodPart base size p → p.there ≡ true → IsGoodSegment base (part_header base p)
good_segment base size p good there =
    let some = good.some there in
    let low = good.low in
    let less = greatest_end-less placed_has_bytes p.from p.placed in
    let high = good.high there in
    record {
      type_ = refl;
      rights_low = good.rights_low;
      rights_high = good.rights_high;
      align = refl;
      physical = refl;
      page = good.page;
      some = omega (arith, some);
      file_in_memory = omega (arith, less);
      end = omega (arith, some, high);
      offset = omega (arith, low);
      code = λ x. ap (λ (n : ℕ). n - p.start) (greatest_end-same placed_has_bytes p.from p.placed (good.code x));
    }

-- facts on all headers, and on each with each later one, from facts on the segments that are there
module _ (base size : ℕ) (parts : List Part) (good : AreGoodParts base size parts) where
  pub All-segments :
      (P : ProgramHeader → Type 0) →
      ((p : Part) → Contains parts p → p.there ≡ true → IsGoodPart base size p → P (part_header base p)) →
      All P (segments_of base parts)
  All-segments P h =
      All-from_contains P (segments_of base parts) (λ g c.
      let i = Contains-from_map (part_header base) (filter (λ (p : Part). p.there) parts) g c in
      let f = Contains-from_filter (λ (p : Part). p.there) parts i.of i.there in
      subst P i.is (h i.of f.0 f.1 (All-contains (IsGoodPart base size) parts i.of good.each f.0)))

  pub AllPairs-segments :
      (R : ProgramHeader → ProgramHeader → Type 0) →
      ((p q : Part) → IsGoodPart base size p → p.there ≡ true → part_end p ≤ q.start → R (part_header base p) (part_header base q)) →
      AllPairs R (segments_of base parts)
  AllPairs-segments R h =
      let kept = filter (λ (p : Part). p.there) parts in
      let each = All-filter (λ (p : Part). p.there) (IsGoodPart base size) parts good.each in
      let there = filter_passes (λ (p : Part). p.there) parts in
      let rising = AllPairs-filter (λ (p q : Part). part_end p ≤ q.start) (λ (p : Part). p.there) parts good.rising in
      AllPairs-map R (part_header base) kept
      (λ i j d low high.
      let first : i < length kept = omega (arith, low, high) in
      h (get_or kept i d) (get_or kept j d) (each i d first) (there i d first) (rising i j d low high))

  -- the header of a segment that is there is one of the headers
  pub segment_there : (p : Part) → Contains parts p → p.there ≡ true → Contains (segments_of base parts) (part_header base p)
  segment_there p c there =
      Contains-map (part_header base) (filter (λ (q : Part). q.there) parts) p
      (Contains-filter (λ (q : Part). q.there) parts p c there)

  pub own_segments_good : AreOwnSegments base size (segments_of base parts)
  own_segments_good =
      let f = greatest_end-from placed_has_bytes good.first.from good.first.placed in
      let s = good.first_start in
      let r = good.first_from in
      let t = good.first_there in
      record {
        each = All-segments (IsGoodSegment base) (λ p c there g. good_segment base size p g there);
        rising = AllPairs-segments IsBelow (λ p q g there low. let e = part_memory_end base size p g there in omega (arith, e, low));
        first = part_header base good.first;
        others = segments_of base good.others;
        segments_are = ap (segments_of base) good.parts_are ∙ rw t refl;
        first_address = s;
        first_holds = omega (arith, f, s, r);
      }

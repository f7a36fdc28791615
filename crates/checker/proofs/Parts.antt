-- File parts of an accepted image, and what its segments map.
use Rattle.std.proofs.Common.{◌≡◌, ℕ, ◌+◌, ◌-◌, ◌<◌, ◌≤◌, ◌⊎◌, inl, inr, Bool, List, length, get_or, refl, subst, arith}
use Rattle.std.specs.Prelude.{All, AllPairs, IsTrue, Option, Some, None, find, map, option_map, slice_index}
use Rattle.std.specs.List.Sorted.{IsNonDecreasingBy}
use Rattle.std.proofs.lemmas.List.{get_or-map, length-map}
use Rattle.std.proofs.lemmas.List.Elements.{All-contains, All-contains_itself, All-map, All-weaker}
use Rattle.std.proofs.lemmas.Option.{none-some, same_Some}
use Rattle.elf_model.specs.Image.MemoryImage.{Cell, IsGoodLoad, IsImage, cell_of, file_end, first_address, loads, maps, program_headers}
use Rattle.elf_model.specs.Link.Placement.{Covers}
use Rattle.elf_model.specs.Image.RightLink.{IsFilled, fill_of}
use Rattle.elf_model.specs.declared.records.ProgramHeader.{ProgramHeader}
use Rattle.elf_model.specs.declared.thing.Thing.{Thing}
use Rattle.loader_model.specs.Table.{IsBelow}
use Rattle.elf_model.proofs.Addresses.{mapped, maps-true}
use Rattle.elf_model.proofs.Finding.{find-found}
use Rattle.loader_model.proofs.MemoryLemmas.{memory_at}
use Rattle.loader_model.proofs.TableOrder.{ascending_loads}
use Rattle.checker.specs.Filled.{HasZeroGaps, SegmentFilled, part_of}
use Rattle.check_places.specs.Sweeps.{EndFits, RegionFilled}
use Rattle.check_link.proofs.Padded.{below_or_not}
use Rattle.elf_model.proofs.Listed.{All-unmap}

abbrev GoodIn : List ℕ → ProgramHeader → Type 0
GoodIn image h = IsGoodLoad (first_address (loads image)) (length image) h

good : (image : List ℕ) → IsImage image → All (GoodIn image) (loads image)
good image is = is.segments.segments

pub parts_fit : (image : List ℕ) → IsImage image → All EndFits (map part_of (loads image))
parts_fit image is =
    All-map EndFits part_of (loads image)
    (All-weaker (GoodIn image) (λ (h : ProgramHeader). EndFits (part_of h))
    (λ h g. let e = g.end in let m = g.file_in_memory in let o = g.offset in omega (arith, e, m, o)) (loads image) (good image is))

pub parts_rise : (image : List ℕ) → IsImage image → IsNonDecreasingBy (λ (t : Thing). t.at) (map part_of (loads image))
parts_rise image is i j d order within =
    let n = length-map (loads image) part_of in
    let below : j < length (loads image) = omega (arith, n, within) in
    let h : ProgramHeader = record { p_type = 0; p_flags = 0; p_offset = 0; p_vaddr = 0; p_paddr = 0; p_filesz = 0; p_memsz = 0; p_align = 0 } in
    let ei = get_or-map part_of (loads image) i h d (omega (arith, order, below)) in
    let ej = get_or-map part_of (loads image) j h d below in
    let oi = (good image is i h (omega (arith, order, below))).offset in
    let oj = (good image is j h below).offset in
    let rises = ascending_loads (program_headers image) (loads image) refl is.order in
    rw (ei, ej) (by h oi oj below rises (below_or_not i j))
  where
    by : (h : ProgramHeader) →
        (get_or (loads image) i h).p_offset + first_address (loads image) ≡ (get_or (loads image) i h).p_vaddr →
        (get_or (loads image) j h).p_offset + first_address (loads image) ≡ (get_or (loads image) j h).p_vaddr →
        j < length (loads image) → AllPairs IsBelow (loads image) → (i < j) ⊎ (j ≤ i) →
        (get_or (loads image) i h).p_offset ≤ (get_or (loads image) j h).p_offset
    by h oi oj below rises (inl low) = let r = rises i j h low below in omega (arith, oi, oj, r)
    by h oi oj below rises (inr high) =
        let e : i ≡ j = omega (arith, order, high) in
        subst (λ (k : ℕ). (get_or (loads image) i h).p_offset ≤ (get_or (loads image) k h).p_offset) e (omega arith)

-- the file's gaps, as a region
pub gaps_iff :
    (image : List ℕ) (b : Bool) →
    (IsTrue b → RegionFilled image 0 (file_end (loads image)) 0 (map part_of (loads image))) × (RegionFilled image 0 (file_end (loads image)) 0 (map part_of (loads image)) → IsTrue b) →
    (IsTrue b → HasZeroGaps image) × (HasZeroGaps image → IsTrue b)
gaps_iff image b region = (
  λ e. record {
    gaps = λ i within out.
        let z : i - 0 ≡ i = omega arith in
        subst (λ (k : ℕ). slice_index image k ≡ 0) z
        (region.0 e i (omega arith) within (All-map (λ (t : Thing). Covers t i → ⊥) part_of (loads image) out));
  },
  λ g. region.1
      (λ a low high out.
      let z : a ≡ a - 0 = omega arith in
      subst (λ (k : ℕ). slice_index image k ≡ 0) z
      (g.gaps a high (All-unmap (λ (t : Thing). Covers t a → ⊥) part_of (loads image) out))),
)

-- memory is filled outside of all things where each segment is outside of things that take up the same
pub filled_iff :
    (image : List ℕ) (things same : List Thing) (b : Bool) → IsImage image →
    ((a : ℕ) → All (λ t. Covers t a → ⊥) things → All (λ t. Covers t a → ⊥) same) →
    ((a : ℕ) → All (λ t. Covers t a → ⊥) same → All (λ t. Covers t a → ⊥) things) →
    (IsTrue b → All (SegmentFilled image same) (loads image)) × (All (SegmentFilled image same) (loads image) → IsTrue b) →
    (IsTrue b → IsFilled image things) × (IsFilled image things → IsTrue b)
filled_iff image things same b is to back all = (
  λ e a c m out. by e a c out (find (λ h. maps h a) (loads image)) refl m,
  λ filled. all.1
      (λ k d within.
      let there = All-contains_itself (loads image) k d within in
      record {
        filled = λ a low high out.
            filled a (cell_of image a (get_or (loads image) k d))
            (memory_at image a (get_or (loads image) k d) is there (maps-true (get_or (loads image) k d) a low high))
            (back a out);
      }),
)
  where
    by :
        IsTrue b → (a : ℕ) (c : Cell) → All (λ t. Covers t a → ⊥) things → (o : Option ProgramHeader) →
        find (λ h. maps h a) (loads image) ≡ o → option_map (cell_of image a) o ≡ Some c → c.byte ≡ fill_of c.rights
    by e a c out None found m = absurd (none-some c m)
    by e a c out (Some h) found m =
        let f = find-found (λ (g : ProgramHeader). maps g a) (loads image) h found in
        let bounds = mapped h a f.passes in
        let filled = All-contains (SegmentFilled image same) (loads image) h (all.0 e) f.there in
        let byte = filled.filled a bounds.0 bounds.1 (to a out) in
        subst (λ (x : Cell). x.byte ≡ fill_of x.rights) (same_Some (cell_of image a h) c m) byte

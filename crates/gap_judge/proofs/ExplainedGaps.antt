-- The gaps of a link are those that the spans of its things and slots leave.
use Rattle.std.proofs.Common.{◌≡◌, ℕ, suc, ◌+◌, ◌-◌, ◌^◌, ◌<◌, ◌≤◌, ◌⊎◌, inl, inr, List, [], ◌∷◌, ◌++◌, length, map, refl, sym, subst, ◌∙◌, arith}
use Rattle.std.specs.Prelude.{◌↔◌, All, Any, Contains}
use Rattle.std.proofs.lemmas.List.Elements.{All-contains, Contains-append_cases, Contains-append_left, Contains-append_right}
use Rattle.elf_model.proofs.Finding.{Any-from_contains}
use Rattle.elf_model.proofs.Listed.{All-from_contains, Contains-from_map, Contains-map}
use Rattle.elf_model.specs.Image.MemoryImage.{loads}
use Rattle.elf_model.specs.Link.Placement.{Covers}
use Rattle.elf_model.specs.Link.Relocation.{Relocation}
use Rattle.elf_model.specs.declared.records.ProgramHeader.{ProgramHeader}
use Rattle.elf_model.specs.declared.thing.Thing.{Thing}
use Rattle.judge_model.specs.Fields.{HasSlotAt, slot_thing}
use Rattle.judge_model.specs.Fill.{IsExplained, IsGap, IsGapRight, IsSlotOf}
use Rattle.judge_model.specs.Headers.{IsLoad, IsProgram}
use Rattle.judge_model.specs.Links.{ForeignLink, relocations_of}
use Rattle.judge_model.specs.Memory.{Holds}
use Rattle.judge_model.specs.Placed.{explained_things}
use Rattle.memory_judge.specs.Spans.{AreSpansOf, IsInSpan, far}
use Rattle.memory_judge.specs.declared.spans.Span.{Span}
use Rattle.gap_judge.proofs.GapLaws.{AreLeft, of_gaps}
use Rattle.gap_judge.specs.Fill.{HoldsFill, HoldsFillIn, IsFill, IsSegmentFilled}
use Rattle.gap_judge.specs.Gaps.{IsGapBetween, gaps}
use Rattle.link_fields.specs.Slots.{AreSlots}
use Rattle.gap_judge.specs.Links.{AreGapsFilled, AreRunGaps}

module _ (l : ForeignLink) (slots : List ℕ) (are : AreSlots l slots) where
  -- addresses that things and slots take up are those that are explained
  taken_explained : (a : ℕ) → Any (λ (t : Thing). Covers t a) (explained_things l ++ map slot_thing slots) → IsExplained l a
  taken_explained a (i, t, low, is, c) = by (Contains-append_cases (explained_things l) (map slot_thing slots) t (i, low, is))
    where
      of_slot : (at : ℕ) → Contains slots at → Covers (slot_thing at) a → Any (IsSlotOf l a) (relocations_of l)
      of_slot at there here = asked ((are.slots_are at).0 there)
        where
          asked : Any (λ (r : Relocation). HasSlotAt l r at) (relocations_of l) → Any (IsSlotOf l a) (relocations_of l)
          asked (j, r, below, same, has) = (j, r, below, same, (at, has, here))

      by : Contains (explained_things l) t ⊎ Contains (map slot_thing slots) t → IsExplained l a
      by (inl there) = inl (Any-from_contains (λ (u : Thing). Covers u a) (explained_things l) t there c)
      by (inr there) =
          let m = Contains-from_map slot_thing slots t there in
          inr (of_slot m.of m.there (subst (λ (u : Thing). Covers u a) (sym m.is) c))

  explained_taken : (a : ℕ) → IsExplained l a → Any (λ (t : Thing). Covers t a) (explained_things l ++ map slot_thing slots)
  explained_taken a (inl (i, t, low, is, c)) =
      Any-from_contains (λ (u : Thing). Covers u a) (explained_things l ++ map slot_thing slots) t
      (Contains-append_left (explained_things l) (map slot_thing slots) t (i, low, is)) c
  explained_taken a (inr (i, r, low, is, (at, has, c))) =
      Any-from_contains (λ (u : Thing). Covers u a) (explained_things l ++ map slot_thing slots) (slot_thing at)
      (Contains-append_right (explained_things l) (map slot_thing slots) (slot_thing at)
      (Contains-map slot_thing slots at ((are.slots_are at).1 (Any-from_contains (λ (s : Relocation). HasSlotAt l s at) (relocations_of l) r (i, low, is) has)))) c

  module _ (spans runs : List Span) (found : AreSpansOf (explained_things l ++ map slot_thing slots) spans) (between : AreRunGaps l runs) where
    left : (h : ProgramHeader) → h.p_vaddr + h.p_memsz < far → AreLeft (IsExplained l) h.p_vaddr (h.p_vaddr + h.p_memsz) h.p_vaddr spans
    left h low = record {
      at = omega arith;
      first = λ within. inl refl;
      explain = λ a high within e. (found.covers a (omega (arith, low, within))).1 (explained_taken a e);
      explained = λ a high within has. taken_explained a ((found.covers a (omega (arith, low, within))).0 has);
      some = found.some;
      rising = found.rising;
    }

    -- a gap has fill where it is right
    abbrev Right : ProgramHeader → ℕ → ℕ → Type 0
    Right h from to = (bytes : List ℕ) × (length bytes ≡ to - from) × Holds l.image from bytes × IsGapRight l h from bytes

    right : (h : ProgramHeader) (from to : ℕ) → HoldsFill l.image runs h from to → Right h from to
    right h from to f =
        (f.bytes, f.long, f.holds, record { zeros = f.fill.zeros; code = f.fill.code; run = λ through. f.fill.run ((between.gaps_are from).1 through) })

    filled : (h : ProgramHeader) (from to : ℕ) → Right h from to → HoldsFill l.image runs h from to
    filled h from to (bytes, long, holds, r) = record {
      bytes = bytes;
      long = long;
      holds = holds;
      fill = record { zeros = r.zeros; code = r.code; run = λ any. r.run ((between.gaps_are from).0 any) };
    }

    segment_filled :
        (h : ProgramHeader) → h.p_vaddr + h.p_memsz < far →
        IsSegmentFilled l.image spans runs h ↔ ((from to : ℕ) → IsGap l h from to → Right h from to)
    segment_filled h low = (
      λ s from to gap.
          let f = both.0 s.filled from to (record { some = gap.some; inside = gap.inside; gap = gap.gap; first = gap.first; last = gap.last }) in
          right h from to f.fill,
      λ each. record {
        filled =
            both.1
            (λ from to gap. record {
              fill = filled h from to (each from to (record { some = gap.some; inside = gap.inside; gap = gap.gap; first = gap.first; last = gap.last }));
            });
      },
    )
      where
        both : All (λ g. HoldsFillIn l.image runs h (record { from = g.from; to = g.to })) (gaps h.p_vaddr (h.p_vaddr + h.p_memsz) spans) ↔ ((from to : ℕ) → IsGapBetween (IsExplained l) h.p_vaddr (h.p_vaddr + h.p_memsz) from to → HoldsFillIn l.image runs h (record { from = from; to = to }))
        both = of_gaps (IsExplained l) h.p_vaddr (h.p_vaddr + h.p_memsz) (λ from to. HoldsFillIn l.image runs h (record { from = from; to = to })) spans (left h low)

    pub gaps_filled : IsProgram l.image → All (IsSegmentFilled l.image spans runs) (loads l.image) ↔ AreGapsFilled l
    gaps_filled program = (
      λ all. record { gaps = λ h from to there gap. (segment_filled h (low h there)).0 (All-contains (IsSegmentFilled l.image spans runs) (loads l.image) h all there) from to gap },
      λ are_filled.
          All-from_contains (IsSegmentFilled l.image spans runs) (loads l.image)
          (λ h there. (segment_filled h (low h there)).1 (λ from to gap. are_filled.gaps h from to there gap)),
    )
      where
        low : (h : ProgramHeader) → Contains (loads l.image) h → h.p_vaddr + h.p_memsz < far
        low h there = let load = All-contains (IsLoad (length l.image)) (loads l.image) h program.loads_are.each there in let b = load.low in omega (arith, b)

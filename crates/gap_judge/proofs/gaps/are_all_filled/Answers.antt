use Rattle.std.proofs.Common.{arith, false, refl, sym, ◌+◌, ◌<◌, ◌^◌, ◌∙◌}
use Rattle.std.specs.Prelude.{All, Contains}
use Rattle.std.proofs.lemmas.Bool.{false≢true}
use Rattle.elf_model.proofs.Rests.{all_end, all_more, all_stop}
use Rattle.elf_model.specs.Image.MemoryImage.{loads}
use Rattle.elf_model.specs.declared.records.ProgramHeader.{ProgramHeader}
use Rattle.gap_judge.specs.Fill.{IsSegmentFilled}
use Rattle.gap_judge.proofs.gaps.are_all_filled.Goals as goal

pub is_segment_filled-requires : goal.is_segment_filled-requires
is_segment_filled-requires c = record {
  there = c.requires.there _ _ c.loop-segment-test.true;
  low = c.requires.low _ _ c.loop-segment-test.true;
  runs = c.requires.runs;
  rising = c.requires.rising;
}

pub returns-then-not-is_segment_filled : goal.returns-then-not-is_segment_filled
returns-then-not-is_segment_filled c = (
  λ e. absurd (false≢true e),
  λ all.
      absurd
      (all_stop (All (IsSegmentFilled c.args.image.now c.args.spans.now c.args.runs.now) c.args.segments.now)
      (IsSegmentFilled c.args.image.now c.args.spans.now c.args.runs.now) c.args.segments.now c.loop-segment.segment-index _ c.loop-segment-test.true
      (λ h. false≢true (sym c.if-not-is_segment_filled.true ∙ c.is_segment_filled.ensures.1 h)) c.loop-segment.invariant all),
)

pub loop-segment-preserved : goal.loop-segment-preserved
loop-segment-preserved c =
    all_more (All (IsSegmentFilled c.args.image.now c.args.spans.now c.args.runs.now) c.args.segments.now)
    (IsSegmentFilled c.args.image.now c.args.spans.now c.args.runs.now) c.args.segments.now c.loop-segment.segment-index _ c.loop-segment-test.true
    (c.is_segment_filled.ensures.0 c.if-not-is_segment_filled.false) c.loop-segment.invariant

pub returns : goal.returns
returns c = (
  λ e.
      all_end (All (IsSegmentFilled c.args.image.now c.args.spans.now c.args.runs.now) c.args.segments.now)
      (IsSegmentFilled c.args.image.now c.args.spans.now c.args.runs.now) c.args.segments.now c.loop-segment.segment-index
      (omega (arith, c.loop-segment-test.false)) c.loop-segment.invariant,
  λ all. refl,
)

use Rattle.std.proofs.Common.{ℕ, ◌+◌, ◌∙◌, List, subst, sym, arith}
use Rattle.std.specs.Prelude.{All, IsTrue}
use Rattle.std.specs.List.Sorted.{IsNonDecreasingBy}
use Rattle.elf_model.specs.Image.MemoryImage.{loads}
use Rattle.elf_model.specs.declared.records.ProgramHeader.{ProgramHeader}
use Rattle.elf_model.specs.declared.thing.Thing.{Thing}
use Rattle.checker.specs.Filled.{SegmentFilled}
use Rattle.check_places.specs.Sweeps.{EndFits, stretched}
use Rattle.checker.proofs.Parts.{filled_iff}
use Rattle.elf_model.proofs.Rests.{Left}
use Rattle.checker.proofs.Stretching.{out_of_stretched, out_of_things, stretched_ends_rise, stretched_fit, stretched_rise}
use Rattle.checker.proofs.c11_fill.is_memory_filled.Goals as goal

pub are_segments_filled-filled-requires-clause-fits : goal.are_segments_filled-filled-requires-clause-fits
are_segments_filled-filled-requires-clause-fits c =
    subst (All EndFits) (sym (c.deref.ensures.value ∙ c.in_ok-stretches.ensures))
    (stretched_fit 0 c.args.sorted.now (omega arith) c.requires.fits)

pub are_segments_filled-filled-requires-clause-rising : goal.are_segments_filled-filled-requires-clause-rising
are_segments_filled-filled-requires-clause-rising c =
    subst (IsNonDecreasingBy (λ (t : Thing). t.at)) (sym (c.deref.ensures.value ∙ c.in_ok-stretches.ensures))
    (stretched_rise 0 c.args.sorted.now c.requires.rising)

pub are_segments_filled-filled-requires-clause-ends : goal.are_segments_filled-filled-requires-clause-ends
are_segments_filled-filled-requires-clause-ends c =
    subst (IsNonDecreasingBy (λ (t : Thing). t.at + t.size)) (sym (c.deref.ensures.value ∙ c.in_ok-stretches.ensures))
    (stretched_ends_rise 0 c.args.sorted.now)

pub returns : goal.returns
returns c =
    filled_iff c.args.memory.now c.args.sorted.now (stretched 0 c.args.sorted.now) c.are_segments_filled-filled.result
    c.image-image.ensures.accepted (λ a out. out_of_things a c.args.sorted.now c.requires.rising out)
    (λ a out. out_of_stretched 0 a c.args.sorted.now out)
    (subst (λ (image : List ℕ). Left (IsTrue c.are_segments_filled-filled.result) (All (SegmentFilled image (stretched 0 c.args.sorted.now)) (loads c.args.memory.now))) c.image-image.ensures.bytes
    (subst (λ (hs : List ProgramHeader). Left (IsTrue c.are_segments_filled-filled.result) (All (SegmentFilled c.image-image.result.now (stretched 0 c.args.sorted.now)) hs)) c.segments.ensures
    (subst (λ (ts : List Thing). Left (IsTrue c.are_segments_filled-filled.result) (All (SegmentFilled c.image-image.result.now ts) c.segments.result.now)) (c.deref.ensures.value ∙ c.in_ok-stretches.ensures)
    c.are_segments_filled-filled.ensures)))

use Rattle.std.proofs.Common.{◌≡◌, ◌++◌, ◌∙◌, List, ℕ, map, subst, sym, ap}
use Rattle.std.specs.Prelude.{◌↔◌, All, IsTrue}
use Rattle.elf_model.specs.Image.MemoryImage.{loads}
use Rattle.elf_model.specs.declared.thing.Thing.{Thing}
use Rattle.judge_model.specs.Fields.{slot_thing}
use Rattle.judge_model.specs.Headers.{IsProgram}
use Rattle.memory_judge.specs.Spans.{AreSpansOf}
use Rattle.memory_judge.specs.declared.spans.Span.{Span}
use Rattle.gap_judge.specs.Fill.{IsSegmentFilled}
use Rattle.gap_judge.proofs.ExplainedGaps.{gaps_filled}
use Rattle.gap_judge.proofs.explained.are_gaps_filled.Goals as goal

pub returns : goal.returns
returns c = λ l image things slots runs.
    let spans = c.in_ok-spans.spans.items in
    let found =
    subst (λ (ts : List Thing). AreSpansOf ts spans)
    (c.deref.ensures.value ∙ (c.in_ok-all.ensures ∙ ap (λ (ts : List Thing). ts ++ map slot_thing c.args.slots.now) (sym things))) c.in_ok-spans.ensures in
    let both = gaps_filled l c.args.slots.now slots spans c.args.runs.now found runs (subst IsProgram (sym image) c.image-program.ensures.program) in
    let told =
    subst (λ (i : List ℕ). IsTrue c.are_segments_filled-filled.result ↔ All (IsSegmentFilled i spans c.args.runs.now) (loads i)) (sym image)
    (subst (λ (ss : List Span). IsTrue c.are_segments_filled-filled.result ↔ All (IsSegmentFilled c.args.image.now ss c.args.runs.now) (loads c.args.image.now)) c.deref-2.ensures.value c.are_segments_filled-filled.ensures) in
    (λ e. both.0 (told.0 e), λ h. told.1 (both.1 h))

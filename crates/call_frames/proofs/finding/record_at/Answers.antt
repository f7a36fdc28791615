use Rattle.std.proofs.Common.{ap, sym, ◌∙◌}
use Rattle.judge_model.specs.declared.frame_record.FrameRecord.{FrameRecord}
use Rattle.call_frames.proofs.FrameLaws.{found_none, found_other, found_there}
use Rattle.call_frames.proofs.finding.record_at.Goals as goal

pub returns-in_err-frame : goal.returns-in_err-frame
returns-in_err-frame c =
    c.from_residual.ensures
    ∙ found_none c.requires.0 c.args.records.now c.requires.1 c.args.offset c.count_below.result c.count_below.ensures.below
    c.count_below.ensures.not_below c.in_err-frame.ensures.lookup.3

pub returns-then-frame-offset : goal.returns-then-frame-offset
returns-then-frame-offset c =
    let there = c.in_ok-frame.ensures.lookup.3 in
    let frame = c.in_ok-frame.frame.now in
    sym
    (found_there c.requires.0 c.args.records.now c.requires.1 c.args.offset frame (c.count_below.result, there.0, sym (there.1 frame))
    c.if-frame-offset.true)

pub returns-else-frame-offset : goal.returns-else-frame-offset
returns-else-frame-offset c =
    let there = c.in_ok-frame.ensures.lookup.3 in
    let frame = c.in_ok-frame.frame.now in
    found_other c.requires.0 c.args.records.now c.requires.1 c.args.offset c.count_below.result c.count_below.ensures.below
    c.count_below.ensures.not_below frame there.0 (λ e. c.if-frame-offset.false (ap (λ (r : FrameRecord). r.offset) (there.1 frame) ∙ e))

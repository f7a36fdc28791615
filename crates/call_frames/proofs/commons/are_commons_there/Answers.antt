use Rattle.std.proofs.Common.{List, subst, sym}
use Rattle.std.specs.Prelude.{All}
use Rattle.elf_model.proofs.Rests.{Left, all_more}
use Rattle.judge_model.specs.Frames.{HasCommon, records_of}
use Rattle.judge_model.specs.declared.frame_record.FrameRecord.{FrameRecord}
use Rattle.call_frames.proofs.commons.are_commons_there.Goals as goal

pub loop-frame-init : goal.loop-frame-init
loop-frame-init c =
    let rs = records_of c.args.frames.now in
    subst (λ (xs : List FrameRecord). Left (All (HasCommon rs) rs) (All (HasCommon rs) xs)) (sym c.records-records.ensures.records) (λ all. all, λ all. all)

pub loop-frame-preserved : goal.loop-frame-preserved
loop-frame-preserved c =
    let rs = records_of c.args.frames.now in
    all_more (All (HasCommon rs) rs) (HasCommon rs) c.records-records.result.now c.loop-frame.frame-index _ c.loop-frame-test.true
    (c.has_common.ensures.0 c.if-not-has_common.false) c.loop-frame.invariant

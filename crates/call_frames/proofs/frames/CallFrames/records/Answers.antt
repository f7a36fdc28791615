use Rattle.std.proofs.Common.{◌≡◌, List, Option, Some, [], ℕ, ap, length, subst, sym, ◌∙◌}
use Rattle.std.specs.Prelude.{unwrap_or}
use Rattle.judge_model.specs.Frames.{frame_records}
use Rattle.judge_model.specs.declared.frame_record.FrameRecord.{FrameRecord}
use Rattle.call_frames.specs.Order.{AreInOrder}
use Rattle.call_frames.proofs.FrameLaws.{in_order}
use Rattle.call_frames.proofs.frames.CallFrames.records.Goals as goal

pub returns-clause-order : goal.returns-clause-order
returns-clause-order c =
    let bytes = c.self.inside.bytes.now in
    let view : bytes ≡ c.args.self.now = c.self.view_is in
    let read : frame_records bytes ≡ Some c.self.inside.records.items = c.self.invariant in
    let same = ap (λ (o : Option (List FrameRecord)). unwrap_or o []) read ∙ sym c.deref.ensures.value in
    subst (λ (list : List ℕ). AreInOrder (length list) c.deref.result.now) view
    (subst (λ (rs : List FrameRecord). AreInOrder (length bytes) rs) same (in_order bytes))

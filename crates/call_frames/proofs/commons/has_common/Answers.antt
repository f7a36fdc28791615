use Rattle.std.proofs.Common.{◌+◌, ◌≤◌, length, arith}
use Rattle.std.proofs.lemmas.Bool.{false≢true}
use Rattle.judge_model.specs.Frames.{records_of}
use Rattle.call_frames.proofs.FrameLaws.{common_found, common_none, in_order}
use Rattle.call_frames.proofs.commons.has_common.Goals as goal

pub returns-in-Some : goal.returns-in-Some
returns-in-Some c =
    let list = c.args.frames.now in
    let r = c.args.frame.now in
    let within : r.id ≤ r.offset + 4 = omega (arith, c.if-place-frame.false) in
    common_found (length list) (records_of list) (in_order list) r c.if-frame-eq0.false within c.in-Some.common c.in-Some.ensures

pub returns-in-None : goal.returns-in-None
returns-in-None c =
    let list = c.args.frames.now in
    let r = c.args.frame.now in
    let within : r.id ≤ r.offset + 4 = omega (arith, c.if-place-frame.false) in (
      λ t. absurd (false≢true t),
      λ has. absurd (common_none (length list) (records_of list) (in_order list) r c.if-frame-eq0.false within c.in-None.ensures has),
    )

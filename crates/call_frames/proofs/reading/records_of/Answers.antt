use Rattle.std.proofs.Common.{◌≡◌, ◌+◌, ◌-◌, ◌≤◌, ◌++◌, ◌∷◌, [], ℕ, List, length, sym, subst, arith}
use Rattle.call_frames.proofs.FrameLaws.{whole_placed}
use Rattle.call_frames.proofs.ReadingLaws.{never_true, not_zero, not_true, with_front, read_broken, read_dirty, read_end, read_more, read_out}
use Rattle.byteview.specs.Numbers.{le_at}
use Rattle.judge_model.specs.declared.frame_record.FrameRecord.{FrameRecord}
use Rattle.judge_model.specs.Frames.{frame_records, is_whole_record, record_at, records_from}
use Rattle.call_frames.proofs.reading.records_of.Goals as goal

pub returns-then-are_zeros : goal.returns-then-are_zeros
returns-then-are_zeros c =
    let bytes = c.args.bytes.now in
    let left = c.loop.invariant.1 in
    read_end (1 + length bytes - c.loop.counter) (length bytes - c.loop.counter) bytes c.loop.at c.loop.records.items (frame_records bytes) (omega arith) left
    (c.is_length_zero.ensures.0 c.if-is_length_zero.true) (c.are_zeros.ensures.0 c.if-are_zeros.true)

pub returns-then-is_length_zero : goal.returns-then-is_length_zero
returns-then-is_length_zero c =
    let bytes = c.args.bytes.now in
    let left = c.loop.invariant.1 in
    read_dirty (1 + length bytes - c.loop.counter) (length bytes - c.loop.counter) bytes c.loop.at c.loop.records.items (frame_records bytes) (omega arith) left
    (c.is_length_zero.ensures.0 c.if-is_length_zero.true) (not_true c.are_zeros.result _ c.are_zeros.ensures.1 c.if-are_zeros.false)

pub returns-in_default : goal.returns-in_default
returns-in_default c =
    let bytes = c.args.bytes.now in
    let left = c.loop.invariant.1 in
    let some = not_zero c.is_length_zero.result (le_at 4 bytes c.loop.at) c.is_length_zero.ensures.1 c.if-is_length_zero.false in
    read_broken (1 + length bytes - c.loop.counter) (length bytes - c.loop.counter) bytes c.loop.at c.loop.records.items (frame_records bytes)
    (omega arith) left some (never_true (is_whole_record bytes (record_at bytes c.loop.at)) c.in_default.ensures)

pub loop-preserved : goal.loop-preserved
loop-preserved c =
    let bytes = c.args.bytes.now in
    let left = c.loop.invariant.1 in
    let front = c.loop.records.items in
    let n = length bytes - c.loop.counter in
    let some = not_zero c.is_length_zero.result (le_at 4 bytes c.loop.at) c.is_length_zero.ensures.1 c.if-is_length_zero.false in
    let whole = c.in-Some.ensures.0 in
    let is = c.in-Some.ensures.1 in
    let more = read_more (1 + length bytes - c.loop.counter) n bytes c.loop.at front (frame_records bytes) (omega arith) left some whole in
    let placed = (whole_placed bytes (record_at bytes c.loop.at) whole).inside in
    let here : 1 + length bytes - (c.loop.counter + 1) ≡ n = omega arith in (
      subst (λ (r : FrameRecord). c.loop.at + r.size ≤ length bytes) (sym is) placed,
      subst
          (λ (rs : List FrameRecord).
          with_front rs (records_from (1 + length bytes - (c.loop.counter + 1)) bytes (c.loop.at + c.in-Some.record.size)) ≡ frame_records bytes)
          (sym c.in_ok-push.ensures.items)
          (subst
          (λ (m : ℕ). with_front (front ++ c.in-Some.record ∷ []) (records_from m bytes (c.loop.at + c.in-Some.record.size)) ≡ frame_records bytes)
          (sym here)
          (subst (λ (r : FrameRecord). with_front (front ++ r ∷ []) (records_from n bytes (c.loop.at + r.size)) ≡ frame_records bytes) (sym is) more)),
    )

pub returns : goal.returns
returns c =
    let bytes = c.args.bytes.now in
    let left = c.loop.invariant.1 in
    read_out (1 + length bytes - c.loop.counter) bytes c.loop.at c.loop.records.items (frame_records bytes) (omega (arith, c.loop-test.false)) left

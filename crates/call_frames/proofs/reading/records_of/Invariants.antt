use Rattle.std.proofs.Common.{◌≡◌, ◌+◌, ◌-◌, ◌≤◌, length}
use Rattle.call_frames.proofs.ReadingLaws.{with_front}
use Rattle.call_frames.proofs.reading.records_of.Given as goal
use Rattle.judge_model.specs.Frames.{frame_records, records_from}

abbrev pub invariant-loop : goal.invariant-loop
invariant-loop l =
    (l.at ≤ length l.bytes)
    × (with_front l.records.items (records_from (1 + length l.bytes - l.counter) l.bytes l.at) ≡ frame_records l.bytes)

use Rattle.std.proofs.Common.{drop}
use Rattle.std.specs.Prelude.{◌+◌, All, Contains}
use Rattle.elf_model.proofs.Rests.{Left}
use Rattle.judge_model.specs.Frames.{records_of}
use Rattle.judge_model.specs.declared.frame_record.FrameRecord.{FrameRecord}
use Rattle.frame_judge.proofs.list.are_listed.Given as goal

abbrev pub invariant-loop-record : goal.invariant-loop-record
invariant-loop-record l =
    Left (All (λ (t : FrameRecord). Contains l.addresses (l.address + t.offset)) (records_of l.list))
    (All (λ (t : FrameRecord). Contains l.addresses (l.address + t.offset)) (drop l.record-index l.record-items))

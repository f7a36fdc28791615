use Rattle.std.proofs.Common.{drop}
use Rattle.std.specs.Prelude.{All, IfSome}
use Rattle.check_link.specs.Views.{piece_view}
use Rattle.elf_model.proofs.Rests.{Left}
use Rattle.judge_model.specs.Certificates.{merged_at}
use Rattle.judge_model.specs.Frames.{HasCopyAt, records_of}
use Rattle.judge_model.specs.declared.frame_record.FrameRecord.{FrameRecord}
use Rattle.memory_judge.specs.Rests.{IsBeside}
use Rattle.frame_judge.proofs.copies.is_section_copied.Given as goal

abbrev pub invariant-loop-record : goal.invariant-loop-record
invariant-loop-record l =
    Left
    (All (λ (r : FrameRecord). IfSome (merged_at l.lines (piece_view l.piece).object (piece_view l.piece).section r.offset)
    (HasCopyAt l.lines (IsBeside l.fields) l.address l.list (piece_view l.piece) r)) (records_of (piece_view l.piece).bytes))
    (All (λ (r : FrameRecord). IfSome (merged_at l.lines (piece_view l.piece).object (piece_view l.piece).section r.offset)
    (HasCopyAt l.lines (IsBeside l.fields) l.address l.list (piece_view l.piece) r)) (drop l.record-index l.record-items))

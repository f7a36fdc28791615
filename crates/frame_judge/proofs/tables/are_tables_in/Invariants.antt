use Rattle.std.proofs.Common.{◌≡◌, true, drop}
use Rattle.std.specs.Prelude.{All}
use Rattle.elf_model.proofs.Rests.{Left}
use Rattle.elf_model.specs.declared.records.ProgramHeader.{ProgramHeader}
use Rattle.judge_model.specs.Headers.{is_of_type, pt_gnu_eh_frame}
use Rattle.frame_judge.specs.Tables.{IsTableIn}
use Rattle.frame_judge.proofs.tables.are_tables_in.Given as goal

abbrev pub invariant-loop-h : goal.invariant-loop-h
invariant-loop-h l =
    Left (All (λ (h : ProgramHeader). is_of_type pt_gnu_eh_frame h ≡ true → IsTableIn l.image l.areas l.list l.frames h) l.headers)
    (All (λ (h : ProgramHeader). is_of_type pt_gnu_eh_frame h ≡ true → IsTableIn l.image l.areas l.list l.frames h) (drop l.h-index l.headers))

use Rattle.std.proofs.Common.{drop}
use Rattle.std.specs.Prelude.{All}
use Rattle.elf_model.proofs.Rests.{Left}
use Rattle.judge_model.specs.FrameTables.{Finds}
use Rattle.judge_model.specs.Frames.{records_of}
use Rattle.frame_table.proofs.finding.find_all.Given as goal

abbrev pub invariant-loop-frame : goal.invariant-loop-frame
invariant-loop-frame l =
    Left (All (Finds l.rows l.list l.start) (records_of l.list)) (All (Finds l.rows l.list l.start) (drop l.frame-index l.frame-items))

use Rattle.std.proofs.Common.{drop}
use Rattle.std.specs.Prelude.{All}
use Rattle.elf_model.proofs.Rests.{Left}
use Rattle.judge_model.specs.Frames.{HasCommon, records_of}
use Rattle.call_frames.proofs.commons.are_commons_there.Given as goal

abbrev pub invariant-loop-frame : goal.invariant-loop-frame
invariant-loop-frame l =
    Left (All (HasCommon (records_of l.frames)) (records_of l.frames)) (All (HasCommon (records_of l.frames)) (drop l.frame-index l.records))

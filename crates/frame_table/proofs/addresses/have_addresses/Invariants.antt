use Rattle.std.proofs.Common.{drop}
use Rattle.std.specs.Prelude.{All}
use Rattle.elf_model.proofs.Rests.{Left}
use Rattle.judge_model.specs.Frames.{HasAddress, records_of}
use Rattle.frame_table.proofs.addresses.have_addresses.Given as goal

abbrev pub invariant-loop-frame : goal.invariant-loop-frame
invariant-loop-frame l =
    Left (All (HasAddress l.list) (records_of l.list)) (All (HasAddress l.list) (drop l.frame-index l.frame-items))

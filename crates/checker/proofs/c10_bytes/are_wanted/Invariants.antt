use Rattle.std.proofs.Common.{drop}
use Rattle.check_relocs.specs.Bytes.{WantedFrom}
use Rattle.checker.proofs.Sweeping.{Sweeps}
use Rattle.checker.proofs.c10_bytes.are_wanted.Given as goal

abbrev pub invariant-loop-field : goal.invariant-loop-field
invariant-loop-field l =
    Sweeps (WantedFrom l.held l.bytes l.fields 0 l.size) l.held l.bytes (drop l.field-index l.fields) l.from l.size

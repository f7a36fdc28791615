use Rattle.std.proofs.Common.{◌≡◌, ◌++◌, drop}
use Rattle.std.specs.Prelude.{map}
use Rattle.checker.specs.Filled.{part_of}
use Rattle.checker.proofs.c11_fill.parts_of.Given as goal

abbrev pub invariant-loop-segment : goal.invariant-loop-segment
invariant-loop-segment l = l.parts.items ++ map part_of (drop l.segment-index l.segments) ≡ map part_of l.segments

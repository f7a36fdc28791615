use Rattle.std.proofs.Common.{◌≡◌, drop}
use Rattle.image_write.specs.Parts.{code_part}
use Rattle.image_write.proofs.fill_bytes.code_of.Given as goal

abbrev pub invariant-loop-segment : goal.invariant-loop-segment
invariant-loop-segment l = code_part (drop l.segment-index l.segments) ≡ code_part l.segments

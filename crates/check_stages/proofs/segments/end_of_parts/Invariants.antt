use Rattle.std.proofs.Common.{◌≡◌, drop}
use Rattle.std.specs.Prelude.{max}
use Rattle.elf_model.specs.Image.MemoryImage.{file_end}
use Rattle.check_stages.proofs.segments.end_of_parts.Given as goal

abbrev pub invariant-loop-segment : goal.invariant-loop-segment
invariant-loop-segment l = max l.end (file_end (drop l.segment-index l.segments)) ≡ file_end l.segments

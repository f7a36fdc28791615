use Rattle.std.proofs.Common.{◌≡◌, ◌++◌, drop}
use Rattle.std.specs.Prelude.{map}
use Rattle.elf_model.specs.Image.MapRecord as record_of_line
use Rattle.linkmap.specs.Borrowed.{common_row}
use Rattle.judge_stages.proofs.lines.borrowed_commons.Given as goal

abbrev pub invariant-loop-line : goal.invariant-loop-line
invariant-loop-line l =
    map common_row l.all.items ++ map record_of_line.common_row (drop l.line-index l.lines) ≡ map record_of_line.common_row l.lines

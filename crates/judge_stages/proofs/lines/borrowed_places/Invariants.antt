use Rattle.std.proofs.Common.{◌≡◌, ◌++◌, drop}
use Rattle.std.specs.Prelude.{map}
use Rattle.elf_model.specs.Image.MapRecord as record_of_line
use Rattle.linkmap.specs.Borrowed.{place_row}
use Rattle.judge_stages.proofs.lines.borrowed_places.Given as goal

abbrev pub invariant-loop-line : goal.invariant-loop-line
invariant-loop-line l =
    map place_row l.all.items ++ map record_of_line.place_row (drop l.line-index l.lines) ≡ map record_of_line.place_row l.lines

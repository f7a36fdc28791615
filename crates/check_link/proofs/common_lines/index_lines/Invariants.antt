use Rattle.std.proofs.Common.{◌≡◌, ℕ, List, drop, map}
use Rattle.std.specs.Prelude.{find}
use Rattle.std.specs.Option.{option_or}
use Rattle.linkmap.specs.Borrowed.{common_row}
use Rattle.elf_model.specs.Link.Placement.{is_common_row_of}
use Rattle.check_link.specs.Commons.{line_in}
use Rattle.check_link.proofs.common_lines.index_lines.Given as goal

abbrev pub invariant-loop-line : goal.invariant-loop-line
invariant-loop-line l =
    (name : List ℕ) → option_or (line_in l.index name) (find (is_common_row_of name) (map common_row (drop l.line-index l.lines)))
    ≡ find (is_common_row_of name) (map common_row l.lines)

use Rattle.std.specs.Prelude.{◌↔◌, All}
use Rattle.check_tables.specs.Listed.{IsLine}
use Rattle.check_tables.proofs.c13_symbols.are_right_lines.Given as goal

abbrev pub invariant-loop-line : goal.invariant-loop-line
invariant-loop-line l = All (IsLine l.bindings.objects l.bindings.places) l.lines.rows ↔ All (IsLine l.bindings.objects l.bindings.places) l.line-iterator

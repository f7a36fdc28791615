use Rattle.std.proofs.Common.{◌≡◌, ◌≤◌}
use Rattle.line_tables.proofs.program.skip_operands.Given as goal

abbrev pub invariant-loop : goal.invariant-loop
invariant-loop l = (l.cursor.bytes ≡ l.fn.cursor.bytes) × (l.fn.cursor.at ≤ l.cursor.at)

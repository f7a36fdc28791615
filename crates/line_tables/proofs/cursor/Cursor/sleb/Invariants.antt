use Rattle.std.proofs.Common.{◌≡◌, ◌≤◌}
use Rattle.line_tables.proofs.cursor.Cursor.sleb.Given as goal

abbrev pub invariant-loop-place : goal.invariant-loop-place
invariant-loop-place l = (l.self.bytes ≡ l.fn.self.bytes) × (l.fn.self.at ≤ l.self.at)

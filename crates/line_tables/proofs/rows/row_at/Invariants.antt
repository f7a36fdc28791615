use Rattle.std.proofs.Common.{◌-◌, length}
use Rattle.line_tables.proofs.rows.row_at.Given as goal

abbrev pub decreases-program : goal.decreases-program
decreases-program l = length l.cursor.bytes.now - l.cursor.at

use Rattle.std.proofs.Common.{◌-◌, length}
use Rattle.line_tables.proofs.names.skip_names.Given as goal

abbrev pub decreases-names : goal.decreases-names
decreases-names l = length l.cursor.bytes.now - l.cursor.at

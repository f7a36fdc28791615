use Rattle.std.proofs.Common.{◌-◌, length}
use Rattle.line_tables.proofs.lookup.source_line.Given as goal

abbrev pub decreases-units : goal.decreases-units
decreases-units l = length l.lines.bytes.now - l.at

use Rattle.std.proofs.Common.{◌≡◌, find}
use Rattle.std.specs.Str.{bytes_eq}
use Rattle.check_tables.proofs.c13_symbols.line_named.Given as goal

abbrev pub invariant-loop-line : goal.invariant-loop-line
invariant-loop-line l = find (λ line. bytes_eq line.name l.name) l.line-iterator ≡ find (λ line. bytes_eq line.name l.name) l.lines.rows

use Rattle.std.proofs.Common.{sym}
use Rattle.linkmap.specs.Borrowed.{symbol_row}
use Rattle.linkmap.proofs.SymbolRuns.{line_of_plain}
use Rattle.linkmap.proofs.fields.read_line.Goals as goal

pub returns-in-Some-clause-line : goal.returns-in-Some-clause-line
returns-in-Some-clause-line c =
    line_of_plain c.args.bytes.now (symbol_row c.in-Some.line) c.in-Some.rest.now (sym c.in-Some.ensures)

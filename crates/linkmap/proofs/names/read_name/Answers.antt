use Rattle.std.proofs.Common.{sym}
use Rattle.linkmap.proofs.SymbolRuns.{name_of_plain}
use Rattle.linkmap.proofs.names.read_name.Goals as goal

pub returns-in-Some : goal.returns-in-Some
returns-in-Some c = name_of_plain c.args.bytes.now _ c.in-Some.rest.now (sym c.in-Some.ensures)

use Rattle.relocate.proofs.SymbolTables.{row_found}
use Rattle.relocate.proofs.referrer.Referrer.reference.Goals as goal

pub returns-in-Some : goal.returns-in-Some
returns-in-Some c =
    let lookup = c.in-Some.ensures.lookup in
    let there =
    row_found c.args.self.now.table.items c.deref.result.now c.args.j c.in-Some.reference.now lookup.0 lookup.1 c.deref.ensures.value in
    c.requires.table c.args.j c.in-Some.reference.now there

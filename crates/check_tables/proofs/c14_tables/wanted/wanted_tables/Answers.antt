use Rattle.std.proofs.Common.{◌∙◌, ap, arith, subst}
use Rattle.elf_model.specs.Image.MapText.{Ascends, SymbolBefore}
use Rattle.elf_model.specs.Image.RightLink.{Subject}
use Rattle.elf_model.specs.declared.verdict.Clause.TheVariants.{C13}
use Rattle.check_tables.proofs.TableClause.{lines_are}
use Rattle.check_tables.proofs.c14_tables.wanted.wanted_tables.Goals as goal

pub table_of-requires-clause-lines : goal.table_of-requires-clause-lines
table_of-requires-clause-lines c =
    let s = c.behind-bound.view_is ∙ c.link.ensures in
    let rows = ap (λ (t : Subject). t.map.symbols) s in
    lines_are c.args.bound.now c.bindings.result.now _ c.bindings.ensures rows
    (subst (λ (t : Subject). Ascends SymbolBefore t.map.symbols) s c.behind-bound.invariant.0.ordered.symbols)
    (c.requires.clauses C13 (omega arith))

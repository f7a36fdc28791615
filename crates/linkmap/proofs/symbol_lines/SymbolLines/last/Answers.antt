use Rattle.std.proofs.Common.{List, Some, ◌∙◌, ◌-◌, ap, length, sym}
use Rattle.std.specs.List.{slice_get}
use Rattle.linkmap.specs.Borrowed.{kept_row}
use Rattle.linkmap.specs.PlainRuns.{rows_of}
use Rattle.linkmap.specs.SymbolRuns.{SymbolRun}
use Rattle.linkmap.specs.declared.borrowed.KeptSymbol.{KeptSymbol}
use Rattle.linkmap.proofs.SymbolRuns.{last_kept}
use Rattle.linkmap.proofs.symbol_lines.SymbolLines.last.Goals as goal

pub returns-in-Some : goal.returns-in-Some
returns-in-Some c =
    let there = ap (λ (ks : List KeptSymbol). slice_get ks (length ks - 1)) (sym c.deref.ensures.value) ∙ sym c.in-Some.ensures.value in
    ap Some c.borrowed.ensures
    ∙ (sym (last_kept (rows_of c.self.inside.run) kept_row c.self.inside.kept.items c.in-Some.line.now there)
    ∙ ap (λ (v : SymbolRun). slice_get v.rows (length v.rows - 1)) c.self.view_is)

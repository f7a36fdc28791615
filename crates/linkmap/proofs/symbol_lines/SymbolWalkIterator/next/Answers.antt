use Rattle.std.proofs.Common.{◌∙◌, ◌++◌, List, ap, drop, length, map, sym, arith}
use Rattle.elf_model.specs.Image.MapRecord.{SymbolRow}
use Rattle.linkmap.specs.Borrowed.{kept_row, symbol_row}
use Rattle.linkmap.proofs.SymbolRuns.{run_less, run_some}
use Rattle.linkmap.proofs.symbol_lines.SymbolWalkIterator.next.Goals as goal

pub returns-in_err-line-clause-steps : goal.returns-in_err-line-clause-steps
returns-in_err-line-clause-steps c =
    let s = c.self.inside in
    absurd (run_some s.count s.text.now (omega (arith, c.if-self-gt0.true)) c.self.invariant (sym c.in_err-line.ensures))

pub invariant_of-self : goal.invariant_of-self
invariant_of-self c =
    let s = c.self.inside in
    let l = run_less s.count s.text.now (symbol_row c.in_ok-line.line) c.in_ok-line.rest.now (omega (arith, c.if-self-gt0.true)) c.self.invariant (sym c.in_ok-line.ensures) in
    l.counted

pub returns-then-self-gt0-clause-steps : goal.returns-then-self-gt0-clause-steps
returns-then-self-gt0-clause-steps c =
    let s = c.self.inside in
    let l = run_less s.count s.text.now (symbol_row c.in_ok-line.line) c.in_ok-line.rest.now (omega (arith, c.if-self-gt0.true)) c.self.invariant (sym c.in_ok-line.ensures) in
    sym c.self.view_is ∙ ap (λ (w : List SymbolRow). w ++ map kept_row (drop s.next s.kept.now)) l.lines

pub returns-then-self-gt0-clause-goes : goal.returns-then-self-gt0-clause-goes
returns-then-self-gt0-clause-goes c =
    let longer = ap length (returns-then-self-gt0-clause-steps c) in
    record {
      on = λ _. (tt, tt, omega (arith, longer));
      keeps = tt;
      rests = λ _. tt;
    }

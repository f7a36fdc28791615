use Rattle.std.proofs.Common.{◌∙◌, arith}
use Rattle.linkmap.specs.Borrowed.{symbol_row}
use Rattle.linkmap.proofs.SymbolRuns.{begun, begun_rows, grown, grown_run, no_rows, run_fits}
use Rattle.linkmap.proofs.plain_run.PlainRun.with.Goals as goal

pub overflow_add-result : goal.overflow_add-result
overflow_add-result c =
    let r = c.args.self in
    omega (arith, run_fits r.count r.text.now c.requires.run.counted, c.ranges.self)

pub returns-in-0-clause-run : goal.returns-in-0-clause-run
returns-in-0-clause-run c =
    grown_run 0 c.args.text c.args.line c.args.rest (begun c.args.text.now (symbol_row c.args.line) c.args.rest.now c.requires.line)

pub returns-in-0-clause-rows : goal.returns-in-0-clause-rows
returns-in-0-clause-rows c =
    let r = c.args.self in
    begun_rows c.args.text.now (symbol_row c.args.line) c.args.rest.now c.requires.line
    ∙ no_rows r.count r.text.now (symbol_row c.args.line) c.requires.run.counted c.in-0.is

pub returns-in_default-clause-run : goal.returns-in_default-clause-run
returns-in_default-clause-run c =
    let r = c.args.self in
    let q = c.requires in
    grown_run r.count r.text c.args.line c.args.rest
    (grown r.count r.text.now c.args.text.now (symbol_row c.args.line) c.args.rest.now q.run.counted (q.run.behind_are ∙ q.here (omega (arith, c.in_default))) q.line)

pub returns-in_default-clause-rows : goal.returns-in_default-clause-rows
returns-in_default-clause-rows c =
    let r = c.args.self in
    let q = c.requires in
    let g = grown r.count r.text.now c.args.text.now (symbol_row c.args.line) c.args.rest.now q.run.counted (q.run.behind_are ∙ q.here (omega (arith, c.in_default))) q.line in
    g.rows

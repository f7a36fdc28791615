use Rattle.std.proofs.Common.{arith}
use Rattle.linkmap.proofs.SymbolRuns.{run_fits}
use Rattle.linkmap.proofs.plain_run.PlainRun.total.Goals as goal

pub overflow_add-result : goal.overflow_add-result
overflow_add-result c =
    let r = c.args.self in
    omega (arith, run_fits r.count r.text.now c.requires.counted, c.ranges.self, c.well_formed)

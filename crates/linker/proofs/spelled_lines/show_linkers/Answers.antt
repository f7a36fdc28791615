use Rattle.std.proofs.Common.{arith}
use Rattle.relocate.specs.Uses.{line_view}
use Rattle.linker.specs.Spelled.{FitsLines}
use Rattle.linker.proofs.Spellings.{none_left, views_fit}
use Rattle.linker.proofs.spelled_lines.show_linkers.Goals as goal

pub loop-line-preserved : goal.loop-line-preserved
loop-line-preserved c = λ rest.
    c.loop-line.invariant
    (views_fit (FitsLines c.args.placement.now) line_view c.args.linkers.now c.loop-line.line-index _ c.loop-line-test.true c.show_linker.ensures rest)

pub returns : goal.returns
returns c =
    let past = c.loop-line-test.false in
    c.loop-line.invariant (none_left (FitsLines c.args.placement.now) line_view c.args.linkers.now c.loop-line.line-index (omega (arith, past)))

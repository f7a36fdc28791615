use Rattle.std.proofs.Common.{arith}
use Rattle.memory_judge.proofs.NumberBytes.{shown_eight, shown_four}
use Rattle.memory_judge.proofs.numbers.shown.Goals as goal

pub returns-then-width-eq4 : goal.returns-then-width-eq4
returns-then-width-eq4 c = λ v s is.
    let four = c.if-width-eq4.true in
    shown_four c.args.width c.args.number v c.extended.result (omega (arith, four)) s is c.extended.ensures

pub returns : goal.returns
returns c = λ v s is.
    let other = c.if-width-eq4.false in
    shown_eight c.args.width c.args.number v (λ e. omega (arith, e, other)) s is

use Rattle.std.proofs.Common.{arith}
use Rattle.memory_judge.proofs.NumberBytes.{extended_high, extended_low}
use Rattle.memory_judge.proofs.numbers.extended.Goals as goal

pub returns-then-number-ge2147483648 : goal.returns-then-number-ge2147483648
returns-then-number-ge2147483648 c = λ v word is.
    let high = c.if-number-ge2147483648.true in
    extended_high c.args.number v word is (omega (arith, high))

pub returns-else-number-ge2147483648 : goal.returns-else-number-ge2147483648
returns-else-number-ge2147483648 c = λ v word is.
    let low = c.if-number-ge2147483648.false in
    extended_low c.args.number v word is (omega (arith, low))

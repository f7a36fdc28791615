use Rattle.std.proofs.Common.{◌+◌, sym, arith}
use Rattle.memory_judge.proofs.NumberBytes.{nothing_high}
use Rattle.memory_judge.proofs.numbers.byte_behind.Goals as goal

pub returns-in-None : goal.returns-in-None
returns-in-None c =
    let none = c.in-None.ensures in
    sym (nothing_high c.args.image.now (c.args.at + c.args.offset + c.args.index) c.image-program.ensures.program (omega (arith, none)))

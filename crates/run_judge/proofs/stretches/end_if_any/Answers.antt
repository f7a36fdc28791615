use Rattle.run_judge.proofs.Stretching.{ends_nowhere, ends_there}
use Rattle.std.proofs.Common.{refl}
use Rattle.run_judge.proofs.stretches.end_if_any.Goals as goal

pub returns-then-thing-eq0 : goal.returns-then-thing-eq0
returns-then-thing-eq0 c = λ from to some low. ends_nowhere c.args.thing.now from to 0 c.if-thing-eq0.true refl

pub returns : goal.returns
returns c = λ from to some low.
    ends_there c.args.thing.now from to c.end_of.result some low c.if-thing-eq0.false c.end_of.ensures

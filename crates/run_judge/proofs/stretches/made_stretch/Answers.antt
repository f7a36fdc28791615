use Rattle.std.proofs.Common.{refl}
use Rattle.run_judge.specs.Clear.{IsBesideGap}
use Rattle.run_judge.proofs.Stretching.{misses_made}
use Rattle.run_judge.proofs.stretches.made_stretch.Goals as goal

pub returns : goal.returns
returns c = λ name from to some low.
    misses_made _ name from to (IsBesideGap from to c.args.thing.now) refl (c.end_if_any.ensures from to some low)

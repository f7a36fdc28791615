use Rattle.layout.proofs.EndSteps.{short_from, short_of}
use Rattle.layout.proofs.segments.are_short.Goals as goal

pub returns : goal.returns
returns c = (
  λ e. short_from c.args.segments.now (c.are_all_short.ensures.0 e),
  λ low. c.are_all_short.ensures.1 (short_of c.args.segments.now low),
)

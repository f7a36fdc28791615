use Rattle.debug_image.proofs.JoinedSteps.{joined_low, no_joined}
use Rattle.debug_image.proofs.joined.named.Goals as goal

pub returns-then-eq-clause-low : goal.returns-then-eq-clause-low
returns-then-eq-clause-low c = joined_low c.args.joined.now c.requires c.loop-one.one-index no_joined c.loop-one-test.true

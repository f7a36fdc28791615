use Rattle.debug_image.proofs.JoinedSteps.{joined_low, no_joined}
use Rattle.debug_image.proofs.chunks.add_joined_rows.Goals as goal

pub start_of-requires-clause-low : goal.start_of-requires-clause-low
start_of-requires-clause-low c = joined_low c.args.joined.now c.requires.joined c.loop-one.one-index no_joined c.loop-one-test.true

pub end_behind-at-requires-clause-low : goal.end_behind-at-requires-clause-low
end_behind-at-requires-clause-low c = joined_low c.args.joined.now c.requires.joined c.loop-one.one-index no_joined c.loop-one-test.true

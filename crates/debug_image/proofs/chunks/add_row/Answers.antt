use Rattle.placing.proofs.RunSteps.{no_place}
use Rattle.debug_image.proofs.DataSteps.{low_at}
use Rattle.debug_image.proofs.chunks.add_row.Goals as goal

pub chunk_at-requires-clause-low : goal.chunk_at-requires-clause-low
chunk_at-requires-clause-low c = low_at c.args.row.now c.requires.low c.loop-place.place-index no_place c.loop-place-test.true

pub end_of-end-requires-clause-low : goal.end_of-end-requires-clause-low
end_of-end-requires-clause-low c = low_at c.args.row.now c.requires.low c.loop-place.place-index no_place c.loop-place-test.true

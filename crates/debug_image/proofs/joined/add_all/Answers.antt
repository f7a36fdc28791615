use Rattle.placing.proofs.RunSteps.{no_piece}
use Rattle.placing.specs.PlaceViews.{place_views}
use Rattle.debug_image.specs.DebugViews.{joined_views}
use Rattle.debug_image.proofs.JoinedSteps.{ends_more, joined_more, no_room, places_more}
use Rattle.debug_image.proofs.joined.add_all.Goals as goal

pub loop-piece-preserved : goal.loop-piece-preserved
loop-piece-preserved c =
    let ps = c.args.pieces.now in
    let k = c.loop-piece.piece-index in
    let within = c.loop-piece-test.true in
    let v = c.loop-piece.invariant in
    let more = c.in_default.ensures in
    record {
      places = places_more (joined_views c.loop-piece.joined.items) _ ps k no_piece (place_views c.loop-piece.places.items) _ _ within more.places more.joined v.places;
      ends = ends_more (place_views c.loop-piece.places.items) _ _ more.places v.ends more.ends;
      joined = joined_more (joined_views c.loop-piece.joined.items) _ ps k no_piece _ within more.joined v.joined;
      low = more.low;
      few = more.few;
    }

pub returns-in-Err-clause-large : goal.returns-in-Err-clause-large
returns-in-Err-clause-large c = λ large.
    no_room (joined_views c.loop-piece.joined.items) c.args.pieces.now c.loop-piece.piece-index no_piece (place_views c.loop-piece.places.items)
    (joined_views c.args.joined.now.items) c.loop-piece-test.true c.loop-piece.invariant.places c.loop-piece.invariant.joined (c.in-Err.ensures.large large)

use Rattle.search.specs.Places.{is_place, is_waiting}
use Rattle.search.proofs.NotedNames.{any_more, stepped}
use Rattle.search.proofs.waiting_places.WaitingPlaces.add_all.Goals as goal

pub loop-place-preserved : goal.loop-place-preserved
loop-place-preserved c = λ k q.
    stepped _ _ _ (is_waiting c.loop-place.self k q) _ _ (any_more (is_place k q) c.args.places.now c.loop-place.place-index _ c.loop-place-test.true)
    (c.in_ok-add.ensures k q) (c.loop-place.invariant k q)

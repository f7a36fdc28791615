use Rattle.check_load.specs.Awake.{is_awake, is_place}
use Rattle.check_load.proofs.NotedNames.{any_more, stepped}
use Rattle.check_load.proofs.awake_entries.Awake.wake_all.Goals as goal

pub loop-place-preserved : goal.loop-place-preserved
loop-place-preserved c = λ i q.
    stepped _ _ _ (is_awake c.loop-place.self i q) _ _ (any_more (is_place i q) c.args.places.now c.loop-place.place-index _ c.loop-place-test.true)
    (c.in_ok-wake.ensures i q) (c.loop-place.invariant i q)

use Rattle.std.proofs.Common.{refl, arith}
use Rattle.layout.specs.PieceParts.{part_test}
use Rattle.layout.proofs.PlaceSteps.{start_reached, start_step}
use Rattle.layout.proofs.bounds.start_of.Goals as goal

pub loop-place-init : goal.loop-place-init
loop-place-init c = refl

pub loop-place-preserved : goal.loop-place-preserved
loop-place-preserved c = start_step (part_test c.args.part) c.args.places.now c.loop-place.place-index _ c.loop-place.start _ _ c.loop-place-test.true c.earlier-start.ensures c.loop-place.invariant

pub returns : goal.returns
returns c = start_reached (part_test c.args.part) _ _ c.args.places.now c.loop-place.place-index (omega (arith, c.loop-place-test.false)) c.loop-place.invariant

use Rattle.std.proofs.Common.{arith}
use Rattle.elf_model.proofs.Listed.{All-unmap}
use Rattle.placing.specs.Limits.{IsInLimit}
use Rattle.layout.specs.PieceParts.{part_test}
use Rattle.placing.specs.PlaceViews.{place_view}
use Rattle.layout.proofs.PlaceSteps.{end_reached, end_step}
use Rattle.layout.proofs.bounds.end_of.Goals as goal

pub loop-place-init : goal.loop-place-init
loop-place-init c = omega arith

pub further-end-requires : goal.further-end-requires
further-end-requires c = All-unmap IsInLimit place_view c.args.places.now c.requires c.loop-place.place-index _ c.loop-place-test.true

pub loop-place-preserved : goal.loop-place-preserved
loop-place-preserved c = end_step (part_test c.args.part) c.args.places.now c.loop-place.place-index _ c.loop-place.end _ _ c.loop-place-test.true c.further-end.ensures c.loop-place.invariant

pub returns : goal.returns
returns c = end_reached (part_test c.args.part) _ _ c.args.places.now c.loop-place.place-index (omega (arith, c.loop-place-test.false)) c.loop-place.invariant

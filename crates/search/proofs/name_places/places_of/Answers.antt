use Rattle.search.specs.Places.{IsPlaced}
use Rattle.search.proofs.PlaceLaws.{all_of, one_more}
use Rattle.search.proofs.name_places.places_of.Goals as goal

pub loop-i-preserved : goal.loop-i-preserved
loop-i-preserved c =
    one_more (IsPlaced c.loop-i.names.entries) (IsPlaced c.add_archive.new.names.entries) c.args.inputs.now c.loop-i.i c.index-inputs-i.result c.index-inputs-i.is
    (λ k o placed s q e at. c.in_ok-add_archive.ensures.stays e.name k q (placed s q e at)) c.in_ok-add_archive.ensures.placed c.loop-i.invariant

pub returns : goal.returns
returns c = all_of (IsPlaced c.loop-i.names.entries) c.args.inputs.now c.loop-i.i c.loop-i-test.false c.loop-i.invariant

use Rattle.std.proofs.Common.{◌∙◌, ap}
use Rattle.placing.specs.PlaceViews.{place_views}
use Rattle.layout.proofs.placed_pieces.lay_out.Goals as goal

pub header_of-requires-clause-places : goal.header_of-requires-clause-places
header_of-requires-clause-places c = ap place_views c.deref-2.ensures.value ∙ c.in_ok-laid.ensures.laid.places

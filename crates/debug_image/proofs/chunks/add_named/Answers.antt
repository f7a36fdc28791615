use Rattle.std.proofs.Common.{List, subst, sym}
use Rattle.std.specs.Prelude.{All}
use Rattle.placing.specs.PlaceViews.{place_views}
use Rattle.placing.specs.declared.runs.Place.{Place}
use Rattle.debug_image.specs.DebugSections.{EndsLow}
use Rattle.debug_image.proofs.DataSteps.{row_low}
use Rattle.debug_image.proofs.chunks.add_named.Goals as goal

pub add_row-requires-clause-low : goal.add_row-requires-clause-low
add_row-requires-clause-low c =
    subst (λ (ps : List Place). All EndsLow (place_views ps)) (sym c.deref.ensures.value)
    (row_low c.args.rows.now c.requires.low c.loop-row.row-index c.row-item.result c.loop-row-test.true c.row-item.is)

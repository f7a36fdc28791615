use Rattle.std.proofs.Common.{◌∙◌, ap, refl, sym}
use Rattle.resolve.specs.Views.{meaning_view, symbol_view}
use Rattle.resolve.specs.declared.definition.Definition.{Definition}
use Rattle.debug_image.specs.DebugPlaces.{data_at}
use Rattle.debug_image.specs.DebugValues.{meaning_value}
use Rattle.debug_image.proofs.data_places.meaning_value.Goals as goal

pub returns-in-Symbol : goal.returns-in-Symbol
returns-in-Symbol c =
    c.symbol_value.ensures (symbol_view c.in-Symbol.symbol) refl refl
    ∙ ap (λ (d : Definition). meaning_value (data_at c.args.places.now) (meaning_view d)) (sym c.in-Symbol.is)

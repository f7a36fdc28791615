use Rattle.search.specs.Views.{loaded_view}
use Rattle.relocate.specs.Values.{where_in}
use Rattle.relocate.proofs.ChosenReferences.{is_value}
use Rattle.relocate.proofs.symbol_values.value_of_symbol.Goals as goal

pub returns-in-Some : goal.returns-in-Some
returns-in-Some c =
    is_value c.args.resolved.now c.args.number (loaded_view c.args.loaded.now) c.args.j (where_in c.args.placement.now) c.in-Some.value c.requires.here
    c.in-Some.ensures

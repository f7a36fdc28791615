use Rattle.std.proofs.Common.{◌≡◌, ◌∙◌, ap, sym}
use Rattle.std.specs.List.{slice_get}
use Rattle.std.specs.Option.{option_and_then}
use Rattle.elf_model.specs.Link.ChosenSymbols.{chosen_symbols}
use Rattle.resolve.specs.Meaning.{named_at}
use Rattle.relocate.specs.Values.{where_in}
use Rattle.relocate.proofs.ChosenValues.{row_worth}
use Rattle.relocate.proofs.symbol_values.chosen_value.Goals as goal

pub returns : goal.returns
returns c =
    let objects = c.args.resolved.now in
    let named : slice_get (chosen_symbols objects) c.in_ok-place.place ≡ named_at objects c.args.symbol.object.0 c.args.symbol.symbol =
    sym (ap (option_and_then (slice_get (chosen_symbols objects))) c.in_ok-place.was) ∙ c.chosen_place.ensures in
    row_worth objects (where_in c.args._placement.now) c.args.chosen.now c.in_ok-place.place _ c.row_at.result c.requires named c.row_at.ensures

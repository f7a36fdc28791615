use Rattle.std.proofs.Common.{◌∙◌, sym}
use Rattle.resolve.proofs.ChosenPlaces.{found_by}
use Rattle.resolve.proofs.definitions.Definitions.get.Goals as goal

pub returns : goal.returns
returns c =
    c.symbol_numbered.ensures
    ∙ found_by c.args.self.now.loaded.now.objects c.args.self.now.chosen.now c.args.place c.in_ok-numbers.numbers c.args.self.now.are
    (sym c.numbers_at.ensures ∙ c.in_ok-numbers.was)

use Rattle.std.proofs.Common.{◌∙◌, sym}
use Rattle.resolve.proofs.ChosenPlaces.{name_by, none_by}
use Rattle.resolve.proofs.definitions.Definitions.name.Goals as goal

pub returns-in-Some : goal.returns-in-Some
returns-in-Some c =
    c.numbered_name.ensures
    ∙ name_by c.args.self.now.loaded.now c.args.self.now.chosen.now c.args.place c.in-Some.numbers c.name_count-named.ensures.named c.args.self.now.are
    (sym c.numbers_at.ensures ∙ c.in-Some.is)

pub returns-in-None : goal.returns-in-None
returns-in-None c =
    none_by c.args.self.now.loaded.now.objects c.args.self.now.chosen.now c.args.place c.args.self.now.are (sym c.numbers_at.ensures ∙ c.in-None.is)

use Rattle.std.proofs.Common.{List, subst}
use Rattle.elf_model.specs.Link.ChosenSymbols.{definitions}
use Rattle.elf_model.specs.Link.Loading.{LoadedObject}
use Rattle.elf_model.specs.Link.Resolution.{SymbolOf}
use Rattle.check_load.specs.Views.{loaded_views}
use Rattle.check_link.specs.Chosen.{AreOtherChoices}
use Rattle.check_link.proofs.SymbolNumbers.{unmarked_unchosen}
use Rattle.check_link.proofs.names.Names.own_choices.Goals as goal

pub returns-clause-others : goal.returns-clause-others
returns-clause-others c =
    let names = c.self.inside in
    let are = c.self.invariant in
    let L = loaded_views names.objects.now in
    let marks = c.in_ok-marks.marks.items in
    subst (λ (os : List LoadedObject). AreOtherChoices os (definitions os) marks) c.self.view_is
    (subst (λ (ss : List SymbolOf). AreOtherChoices L ss marks) are.definitions_are
    (unmarked_unchosen L names.definitions names.chosen marks are.definitions_are are.chosen_are c.in_ok-marks.ensures.all))

use Rattle.std.proofs.Common.{◌∙◌, List, ap, option_map, sym}
use Rattle.std.specs.List.{slice_get}
use Rattle.elf_model.specs.Link.Resolution.{SymbolOf}
use Rattle.check_link.specs.DefinitionList.{name_in, ref_of}
use Rattle.check_link.proofs.AtNumbers.{at_name}
use Rattle.check_link.proofs.definition_list.Definitions.name.Goals as goal

pub returns-in-Some : goal.returns-in-Some
returns-in-Some c =
    let p = c.args.position in
    let is = c.numbers.ensures ∙ ap (λ (ss : List SymbolOf). option_map ref_of (slice_get ss p)) (sym c.self.view_is) in
    c.name_at.ensures
    ∙ (at_name c.self.inside.objects.now p c.numbers.result is c.in-Some.symbol c.in-Some.is ∙ ap (λ (ss : List SymbolOf). name_in ss p) c.self.view_is)

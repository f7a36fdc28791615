use Rattle.std.proofs.Common.{List, rules, subst, ◌≡◌, Some}
use Rattle.elf_model.specs.Link.Loading.{LoadedObject}
use Rattle.elf_model.specs.Link.Resolution.{chosen}
use Rattle.check_link.specs.Views.{symbol_view}
use Rattle.check_tables.proofs.OwnChoices.{own_found}
use Rattle.check_tables.proofs.c13_symbols.own_choices.OwnChoices.find.Goals as goal

pub returns : goal.returns
returns c =
    subst (λ (L : List LoadedObject). chosen L c.args.line.now.name.now ≡ Some (symbol_view c.in_ok-symbol.symbol)) c.self.view_is
    (own_found _ c.self.inside.definitions.now c.self.inside.own.items c.in_ok-position.position c.in_ok-symbol.symbol c.args.line.now.name.now c.self.invariant
    (search rules) (search rules) (search rules))

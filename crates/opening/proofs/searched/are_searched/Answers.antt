use Rattle.std.proofs.Common.{◌∙◌, List, ap, map, subst}
use Rattle.std.specs.Prelude.{All}
use Rattle.command.specs.Views.{item_of}
use Rattle.command.specs.declared.items.Item.{Item}
use Rattle.elf_model.specs.Inputs.Command.{Plan}
use Rattle.opening.specs.Held.{IsSearchedOrWhole}
use Rattle.opening.proofs.searched.are_searched.Goals as goal

pub returns-clause-searched : goal.returns-clause-searched
returns-clause-searched c all =
    let plan = c.args.plan.now in
    subst (All (IsSearchedOrWhole c.args.parts.now plan.directories))
    (ap (λ (is : List Item). map item_of is) c.deref.ensures.value ∙ ap (λ (p : Plan). p.items) c.plan.view_is)
    (c.are_all_searched.ensures.searched plan.directories all)

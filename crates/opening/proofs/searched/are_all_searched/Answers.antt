use Rattle.std.proofs.Common.{List, arith, map, subst}
use Rattle.std.specs.Prelude.{All}
use Rattle.std.proofs.lemmas.List.{take_all}
use Rattle.command.specs.Views.{item_of}
use Rattle.command.specs.declared.items.Item.{Item}
use Rattle.opening.specs.Held.{IsSearchedOrWhole}
use Rattle.opening.proofs.OpenedLaws.{searched_more}
use Rattle.opening.proofs.searched.are_all_searched.Goals as goal

pub loop-item-preserved : goal.loop-item-preserved
loop-item-preserved c directories =
    searched_more c.args.parts.now directories c.args.items.now c.loop-item.item-index _ c.loop-item-test.true (c.loop-item.invariant directories)
    (c.is_searched.ensures.searched directories c.if-not-is_searched.false)

pub returns-clause-searched : goal.returns-clause-searched
returns-clause-searched c directories all =
    subst (λ (is : List Item). All (IsSearchedOrWhole c.args.parts.now directories) (map item_of is))
    (take_all c.loop-item.item-index c.args.items.now (omega (arith, c.loop-item-test.false))) (c.loop-item.invariant directories)

use Rattle.std.proofs.Common.{◌+◌, List, arith, drop, refl, subst, sym}
use Rattle.std.specs.Prelude.{map}
use Rattle.command.specs.Views.{item_of, texts_of}
use Rattle.elf_model.specs.Inputs.Opening.{HasFile, opened_from}
use Rattle.elf_model.specs.Inputs.Command.{Item}
use Rattle.flaws.proofs.Additions.{one_more}
use Rattle.flaws.specs.Flaws.{AreAdded}
use Rattle.opening.specs.Held.{all_files}
use Rattle.item_flaws.proofs.ItemWalks.{at_item, next_opened, none_left}
use Rattle.item_flaws.specs.ItemFlaws.{AddsUnsearchable}
use Rattle.item_flaws.proofs.archives.add_items.Goals as goal

pub add_item-requires-clause-there : goal.add_item-requires-clause-there
add_item-requires-clause-there c =
    at_item c.args.items.now c.loop-i.i _ c.loop-i-test.true (HasFile (all_files c.args.files.now) (texts_of c.args.directories.now)) c.requires.there

pub loop-i-preserved : goal.loop-i-preserved
loop-i-preserved c =
    let files = all_files c.args.files.now in
    let directories = texts_of c.args.directories.now in
    let xs = c.args.items.now in
    let i = c.loop-i.i in
    one_more AddsUnsearchable (AreAdded AddsUnsearchable (opened_from files directories 0 (map item_of xs)) c.args.flaws.now.items)
    (opened_from files directories i (map item_of (drop i xs))) (opened_from files directories (i + 1) (map item_of (drop (i + 1) xs)))
    c.loop-i.flaws.items c.add_item.new.flaws.items c.loop-i.invariant _ (next_opened xs i _ c.loop-i-test.true files directories) c.in_ok-add_item.ensures

pub returns : goal.returns
returns c =
    let files = all_files c.args.files.now in
    let directories = texts_of c.args.directories.now in
    let end = c.loop-i.flaws.items in
    c.loop-i.invariant end (subst (λ (xs : List Item). AreAdded (AddsUnsearchable) (opened_from files directories c.loop-i.i xs) end end) (sym (none_left c.args.items.now c.loop-i.i (omega (arith, c.loop-i-test.false)))) refl)

use Rattle.std.proofs.Common.{◌∙◌, ap}
use Rattle.std.specs.Prelude.{map}
use Rattle.command.specs.Views.{item_of, texts_of}
use Rattle.elf_model.specs.Inputs.Command.{Plan}
use Rattle.elf_model.specs.Inputs.Files.{files_of}
use Rattle.item_flaws.proofs.EachItem.{missing_each}
use Rattle.item_flaws.proofs.NoneLeft.{none_missing}
use Rattle.item_flaws.proofs.ItemWalks.{missing_of}
use Rattle.opening.specs.Held.{all_files}
use Rattle.item_flaws.specs.ItemFlaws.{AreMissingItems}
use Rattle.item_flaws.proofs.missing.missing_items.Goals as goal

are_all : (c : goal.After-drop-index-inside-2) → AreMissingItems (files_of c.args.files.now) c.args.plan.now c.add_items.new.flaws.items
are_all c =
    let files = files_of c.args.files.now in
    let plan = c.args.plan.now in
    let directories = ap texts_of c.deref.ensures.value ∙ ap (λ (p : Plan). p.directories) c.plan.view_is in
    let items = ap (map item_of) c.deref-2.ensures.value ∙ ap (λ (p : Plan). p.items) c.plan.view_is in
    let all = ap all_files c.in_ok-index.ensures in
    missing_of files _ plan _ _ _ c.add_items.new.flaws.items all directories items c.new-flaws.ensures.items c.in_ok-add_items.ensures

pub returns-clause-all : goal.returns-clause-all
returns-clause-all c = are_all c

pub returns-clause-each : goal.returns-clause-each
returns-clause-each c = missing_each (files_of c.args.files.now) c.args.plan.now c.add_items.new.flaws.items (are_all c)

pub returns-clause-none : goal.returns-clause-none
returns-clause-none c = none_missing (files_of c.args.files.now) c.args.plan.now c.add_items.new.flaws.items (are_all c)

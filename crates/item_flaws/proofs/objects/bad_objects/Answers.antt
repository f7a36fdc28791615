use Rattle.std.proofs.Common.{◌∙◌, List, ap, subst}
use Rattle.std.specs.Prelude.{map}
use Rattle.command.specs.Views.{item_of, texts_of}
use Rattle.elf_model.specs.Inputs.Command.{Plan}
use Rattle.elf_model.specs.Inputs.Files.{files_of}
use Rattle.opening.specs.Held.{all_files}
use Rattle.item_flaws.proofs.ItemWalks.{opened_of}
use Rattle.item_flaws.specs.declared.flaw.ItemFlaw.{ItemFlaw}
use Rattle.item_flaws.proofs.EachItem.{objects_each}
use Rattle.item_flaws.proofs.NoneLeft.{none_bad}
use Rattle.item_flaws.specs.ItemFlaws.{AddsStopped, AddsUnreadable, AreBadObjects}
use Rattle.item_flaws.proofs.objects.bad_objects.Goals as goal

are_all : (c : goal.After-drop-index-inside-2) → AreBadObjects (files_of c.args.files.now) c.args.plan.now c.add_items.new.flaws.items
are_all c =
    let files = files_of c.args.files.now in
    let plan = c.args.plan.now in
    let directories = ap texts_of c.deref.ensures.value ∙ ap (λ (p : Plan). p.directories) c.plan.view_is in
    let items = ap (map item_of) c.deref-2.ensures.value ∙ ap (λ (p : Plan). p.items) c.plan.view_is in
    let all = ap all_files c.in_ok-index.ensures in
    let stop = c.in_ok-stop.stop in
    let stopped = c.add_stopped.new.flaws.items in (
      stop,
      stopped,
      subst (λ (s : List ItemFlaw). AddsStopped files plan stop s stopped) c.new-flaws.ensures.items c.in_ok-stop.ensures,
      opened_of (AddsUnreadable stop) files _ plan _ _ stopped c.add_items.new.flaws.items all directories items c.in_ok-add_items.ensures,
    )

pub returns-clause-all : goal.returns-clause-all
returns-clause-all c = are_all c

pub returns-clause-each : goal.returns-clause-each
returns-clause-each c = objects_each (files_of c.args.files.now) c.args.plan.now c.add_items.new.flaws.items (are_all c)

pub returns-clause-none : goal.returns-clause-none
returns-clause-none c = none_bad (files_of c.args.files.now) c.args.plan.now c.add_items.new.flaws.items (are_all c)

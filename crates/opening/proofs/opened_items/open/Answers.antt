use Rattle.std.proofs.Common.{◌∙◌, List, ℕ, ap, map, subst, sym, Option}
use Rattle.std.specs.Borrow.{Bor}
use Rattle.std.specs.Global.{Vec}
use Rattle.std.specs.Prelude.{All, IfSome, IsSome}
use Rattle.std.proofs.lemmas.Bool.{false≢true}
use Rattle.command.specs.Views.{item_of, texts_of}
use Rattle.command.specs.declared.items.Item.{Item}
use Rattle.elf_model.specs.Inputs.Command as command
use Rattle.elf_model.specs.Inputs.Command.{Plan}
use Rattle.elf_model.specs.Inputs.Opening.{HasFile}
use Rattle.opening.specs.Held.{IsSearchedOrWhole, all_files}
use Rattle.opening.specs.Opened.{HasWholeObject}
use Rattle.opening.specs.declared.opened_items.OpenedItem.{OpenedItem}
use Rattle.opening.proofs.opened_items.open.Goals as goal

pub returns-in-None-clause-fault : goal.returns-in-None-clause-fault
returns-in-None-clause-fault c = λ there.
    let directories = ap (λ (ds : List (Bor (List ℕ))). texts_of ds) c.deref.ensures.value ∙ ap (λ (p : Plan). p.directories) c.plan.view_is in
    let items = ap (λ (is : List Item). map item_of is) c.deref-2.ensures.value ∙ ap (λ (p : Plan). p.items) c.plan.view_is in
    let all =
    subst (λ (ds : List (List ℕ)). All (HasFile (all_files c.args.files.now) ds) (map item_of c.deref-2.result.now)) (sym directories)
    (subst (λ (is : List command.Item). All (HasFile (all_files c.args.files.now) c.args.plan.now.directories) is) (sym items) there) in
    false≢true (subst (λ (o : Option (Vec OpenedItem)). IsSome o) c.in-None.is (c.in_ok-opened.ensures.files.1 all))

pub returns-in-Some-clause-objects : goal.returns-in-Some-clause-objects
returns-in-Some-clause-objects c =
    let directories = ap (λ (ds : List (Bor (List ℕ))). texts_of ds) c.deref.ensures.value ∙ ap (λ (p : Plan). p.directories) c.plan.view_is in
    let items = ap (λ (is : List Item). map item_of is) c.deref-2.ensures.value ∙ ap (λ (p : Plan). p.items) c.plan.view_is in
    let parts = c.args.files.now.parts in
    let all =
    subst (λ (ds : List (List ℕ)). All (IsSearchedOrWhole parts ds) (map item_of c.deref-2.result.now)) (sym directories)
    (subst (λ (is : List command.Item). All (IsSearchedOrWhole parts c.args.plan.now.directories) is) (sym items) c.requires) in
    subst (λ (o : Option (Vec OpenedItem)). IfSome o (λ v. All HasWholeObject v.items)) c.in-Some.is (c.in_ok-opened.ensures.objects all)

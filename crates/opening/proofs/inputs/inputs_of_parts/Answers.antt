use Rattle.std.proofs.Common.{◌≡◌, ◌∙◌, List, ap, map, subst, sym}
use Rattle.std.specs.Prelude.{All}
use Rattle.std.proofs.lemmas.Result.{err_from_is_err_and}
use Rattle.elf_model.specs.Inputs.Opening.{AreArchives, AreFilesThere, HaveIndexes, opened}
use Rattle.opening.specs.Held.{AreSearched, HeldFiles, all_files, held_files}
use Rattle.opening.specs.Opened.{HasWholeObject, item_view}
use Rattle.opening.specs.declared.opened_items.OpenedItem.{OpenedItem}
use Rattle.opening.proofs.FaultLaws.{unsearchable_fails}
use Rattle.opening.proofs.inputs.inputs_of_parts.Goals as goal

pub returns-in_err-inputs-clause-fault : goal.returns-in_err-inputs-clause-fault
returns-in_err-inputs-clause-fault c =
    let p = err_from_is_err_and c.from_residual-in_err-inputs.result c.from_residual-in_err-inputs.ensures.1 in
    let files = held_files c.args.parts.now c.args.files.now in
    let plan = c.args.plan.now in
    rw (p.1, p.2)
    (unsearchable_fails files plan (map item_view c.deref.result.now) c.in_err-inputs.field-0.0
    (ap (λ (l : List OpenedItem). map item_view l) c.deref.ensures.value ∙ (c.in_ok-items.ensures.opened ∙ ap (λ (h : HeldFiles). opened (all_files h) plan) c.in_ok-files.ensures))
    (subst (λ (h : HeldFiles). AreFilesThere (all_files h) plan) c.in_ok-files.ensures c.in_ok-items.ensures.files) c.in_err-inputs.ensures.fault)

pub returns-clause-exact : goal.returns-clause-exact
returns-clause-exact c =
    c.in_ok-inputs.ensures.exact
    ∙ (ap (λ (l : List OpenedItem). map item_view l) c.deref.ensures.value
    ∙ (c.in_ok-items.ensures.opened ∙ ap (λ (h : HeldFiles). opened (all_files h) c.args.plan.now) c.in_ok-files.ensures))

pub returns-clause-searchable : goal.returns-clause-searchable
returns-clause-searchable c =
    let files = held_files c.args.parts.now c.args.files.now in
    let plan = c.args.plan.now in
    let items : map item_view c.deref.result.now ≡ opened files plan =
    ap (λ (l : List OpenedItem). map item_view l) c.deref.ensures.value ∙ (c.in_ok-items.ensures.opened ∙ ap (λ (h : HeldFiles). opened (all_files h) plan) c.in_ok-files.ensures) in
    record {
      files_are = subst (λ (h : HeldFiles). AreFilesThere (all_files h) plan) c.in_ok-files.ensures c.in_ok-items.ensures.files;
      archives = subst AreArchives items c.in_ok-inputs.ensures.archives;
      indexes = subst HaveIndexes items c.in_ok-inputs.ensures.indexes;
    }

pub open-requires : goal.open-requires
open-requires c = subst (λ (h : HeldFiles). AreSearched h.parts c.args.plan.now) (sym c.in_ok-files.ensures) c.requires

pub read_inputs-requires : goal.read_inputs-requires
read_inputs-requires c = subst (All HasWholeObject) (sym c.deref.ensures.value) c.in_ok-items.ensures.objects

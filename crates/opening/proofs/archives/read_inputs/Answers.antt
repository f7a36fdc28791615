use Rattle.std.proofs.Common.{◌≡◌, ◌∙◌, ap, subst, sym}
use Rattle.std.specs.Prelude.{List, true, false}
use Rattle.std.proofs.lemmas.Result.{err_from_is_err_and}
use Rattle.std.proofs.lemmas.List.Elements.{All-push}
use Rattle.elf_model.specs.Inputs.ArchiveFile.{IsArchive}
use Rattle.elf_model.specs.Inputs.Opening.{AreArchives, HaveIndexes, Opened, lacks_index}
use Rattle.opening.specs.Faults.{IsUnsearchable}
use Rattle.opening.specs.Opened.{item_view}
use Rattle.opening.specs.declared.opened_items.OpenedItem.{OpenedItem}
use Rattle.opening.proofs.OpenedLaws.{inputs_step, unsearchable_at}
use Rattle.opening.proofs.archives.read_inputs.Goals as goal

pub returns-in_err-read_input-clause-fault : goal.returns-in_err-read_input-clause-fault
returns-in_err-read_input-clause-fault c =
    let p = err_from_is_err_and c.from_residual.result c.from_residual.ensures.1 in
    rw (p.1, p.2) (unsearchable_at c.args.items.now c.loop-item.item-index c.item-item.result c.in_err-read_input.field-0.0 c.loop-item-test.true
    (subst (λ (o : OpenedItem). IsUnsearchable c.in_err-read_input.field-0.0 (item_view o)) c.item-item.is c.in_err-read_input.ensures.fault))

pub loop-item-preserved : goal.loop-item-preserved
loop-item-preserved c =
    let x = c.in_ok-read_input.field-0 in
    let old = c.loop-item.inputs.items in record {
      exact =
          inputs_step c.args.items.now c.loop-item.item-index c.item-item.result old c.push.new.self.items x c.loop-item-test.true c.in_ok-push.ensures.items
          (c.in_ok-read_input.ensures.exact ∙ ap item_view c.item-item.is)
          c.loop-item.invariant.exact;
      archives =
          subst AreArchives (sym {A = List Opened} c.in_ok-push.ensures.items)
          (All-push (λ (o : Opened). o.archive ≡ true → IsArchive o.bytes) old x c.loop-item.invariant.archives
          (subst (λ (o : Opened). o.archive ≡ true → IsArchive o.bytes) (sym {A = Opened} c.in_ok-read_input.ensures.exact) c.in_ok-read_input.ensures.archive));
      indexes =
          subst HaveIndexes (sym {A = List Opened} c.in_ok-push.ensures.items)
          (All-push (λ (o : Opened). o.archive ≡ true → lacks_index o ≡ false) old x c.loop-item.invariant.indexes
          (subst (λ (o : Opened). o.archive ≡ true → lacks_index o ≡ false) (sym {A = Opened} c.in_ok-read_input.ensures.exact) c.in_ok-read_input.ensures.index));
    }

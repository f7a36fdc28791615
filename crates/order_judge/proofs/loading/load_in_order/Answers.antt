use Rattle.std.proofs.Common.{◌≡◌, [], List, map, refl, subst, sym, ◌∙◌}
use Rattle.std.specs.Prelude.{IsSome}
use Rattle.std.proofs.lemmas.Bool.{false≢true}
use Rattle.elf_model.specs.Image.MapRecord.{object_row}
use Rattle.elf_model.specs.Inputs.Files.{files_of}
use Rattle.elf_model.specs.Inputs.Opening.{Opened, opened}
use Rattle.check_load.specs.Loaders.{AreLoadable}
use Rattle.check_load.specs.Stops.{Refutes}
use Rattle.check_load.specs.declared.stops.Stop.TheVariants as stop
use Rattle.judge_model.specs.Loaded.{objects_behind}
use Rattle.judge_load.proofs.RowLaws.{whole}
use Rattle.order_judge.specs.Asked.{AreAskedFor}
use Rattle.order_judge.proofs.OrderLaws.{asked_if_right, can_load, listed_if_right, listed_same, right_lines}
use Rattle.order_judge.proofs.loading.load_in_order.Goals as goal

pub returns-then-not-branch-clause-fault : goal.returns-then-not-branch-clause-fault
returns-then-not-branch-clause-fault c = (
  c.in_ok-are_listed.ensures.readable,
  λ is.
      false≢true
      (sym c.if-not-branch.true
      ∙ c.in_ok-are_listed.ensures.listed.1 (listed_if_right (files_of c.args.files.now) c.args.plan.now (map object_row c.args.rows.now) is)),
)

pub returns-in-Ok-Some-clause-loaded : goal.returns-in-Ok-Some-clause-loaded
returns-in-Ok-Some-clause-loaded c =
    let files = files_of c.args.files.now in
    let rows = map object_row c.args.rows.now in
    let inputs : c.deref-2.result.now ≡ opened files c.args.plan.now = c.deref-2.ensures.value ∙ c.in_ok-inputs.ensures.exact in
    rw c.in-Ok-Some.field-0-is at c.in-Ok-Some.ensures.loaded ∙ whole files c.args.plan.now rows c.deref-2.result.now inputs

pub returns-in-Ok-Some-clause-right : goal.returns-in-Ok-Some-clause-right
returns-in-Ok-Some-clause-right c =
    let files = files_of c.args.files.now in
    let rows = map object_row c.args.rows.now in
    let inputs : c.deref-2.result.now ≡ opened files c.args.plan.now = c.deref-2.ensures.value ∙ c.in_ok-inputs.ensures.exact in
    right_lines files c.args.plan.now rows (c.in_ok-are_listed.ensures.listed.0 c.if-not-branch.false)
    (subst (λ (os : List Opened). AreAskedFor os c.args.plan.now [] rows) inputs
    (c.in-Ok-Some.ensures.asked.0 (subst IsSome (sym c.in-Ok-Some.field-0-is) refl)))

pub returns-in-Ok-None-clause-fault : goal.returns-in-Ok-None-clause-fault
returns-in-Ok-None-clause-fault c =
    let files = files_of c.args.files.now in
    let rows = map object_row c.args.rows.now in
    let inputs : c.deref-2.result.now ≡ opened files c.args.plan.now = c.deref-2.ensures.value ∙ c.in_ok-inputs.ensures.exact in (
      c.in_ok-are_listed.ensures.readable,
      λ is.
          let asked =
          subst (λ (os : List Opened). AreAskedFor os c.args.plan.now [] rows) (sym inputs) (asked_if_right files c.args.plan.now rows is) in
          false≢true (subst IsSome c.in-Ok-None.field-0-is (c.in-Ok-None.ensures.asked.1 asked)),
    )

pub returns-clause-fault : goal.returns-clause-fault
returns-clause-fault c =
    let files = files_of c.args.files.now in
    let rows = map object_row c.args.rows.now in
    let inputs : c.deref-2.result.now ≡ opened files c.args.plan.now = c.deref-2.ensures.value ∙ c.in_ok-inputs.ensures.exact in
    let listed = c.in_ok-are_listed.ensures.listed.0 c.if-not-branch.false in
    let can = can_load files c.args.plan.now rows c.in_ok-are_listed.ensures.readable (listed_same files c.args.plan.now rows listed) in
    let stopped : Refutes (AreLoadable (objects_behind c.deref-2.result.now [] rows)) stop.Unlawful =
    subst (Refutes (AreLoadable (objects_behind c.deref-2.result.now [] rows))) c.in-Err-Unlawful.field-0-is c.in-Err-Unlawful.ensures.stop in (
      c.in_ok-are_listed.ensures.readable,
      λ is. stopped (subst AreLoadable (sym (whole files c.args.plan.now rows c.deref-2.result.now inputs)) can),
    )

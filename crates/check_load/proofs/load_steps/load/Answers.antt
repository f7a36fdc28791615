use Rattle.std.proofs.Common.{◌≡◌, ◌∙◌, List, [], subst, sym}
use Rattle.std.proofs.lemmas.Result.{IfErr-weaker, err_from_is_err_and, on_ok_weaker}
use Rattle.elf_model.specs.Link.Loading.{LoadedObject, loaded_steps, steps}
use Rattle.elf_model.specs.Inputs.Opening.{Opened, opened}
use Rattle.std.specs.Prelude.{All, IfOk}
use Rattle.opening.specs.Held.{held_files}
use Rattle.check_load.specs.Loaders.{AreLoadable}
use Rattle.check_load.specs.Plans.{CanLoad}
use Rattle.check_load.specs.Views.{loaded_views}
use Rattle.check_load.specs.Places.{IsAt}
use Rattle.check_load.specs.Rounds.{AreSideBySide}
use Rattle.check_load.specs.Stops.{Refutes}
use Rattle.check_load.proofs.RoundLaws.{side_opened}
use Rattle.check_load.proofs.PlaceLaws.{all_at}
use Rattle.check_load.proofs.LoadLaws.{all_good, objects_stop, reading_stops, whole}
use Rattle.check_load.proofs.load_steps.load.Goals as goal

pub returns-in_err-inputs-clause-stop : goal.returns-in_err-inputs-clause-stop
returns-in_err-inputs-clause-stop c =
    let p = err_from_is_err_and c.from_residual.result c.from_residual.ensures.1 in
    rw (p.1, p.2) (reading_stops (held_files c.args.parts.now c.args.files.now) c.args.plan.now c.in_err-inputs.field-0.0 c.in_err-inputs.ensures.fault)

pub load_all-requires-clause-at : goal.load_all-requires-clause-at
load_all-requires-clause-at c =
    let inputs : c.deref.result.now ≡ opened (held_files c.args.parts.now c.args.files.now) c.args.plan.now = c.deref.ensures.value ∙ c.in_ok-inputs.ensures.exact in
    subst (λ (xs : List Opened). All (IsAt xs) xs) (sym inputs) (all_at (held_files c.args.parts.now c.args.files.now) c.args.plan.now)

pub load_all-requires-clause-numbers : goal.load_all-requires-clause-numbers
load_all-requires-clause-numbers c =
    let inputs : c.deref.result.now ≡ opened (held_files c.args.parts.now c.args.files.now) c.args.plan.now = c.deref.ensures.value ∙ c.in_ok-inputs.ensures.exact in
    subst AreSideBySide (sym inputs) (side_opened (held_files c.args.parts.now c.args.files.now) c.args.plan.now)

pub returns-clause-loaded : goal.returns-clause-loaded
returns-clause-loaded c =
    let files = held_files c.args.parts.now c.args.files.now in
    let plan = c.args.plan.now in
    let inputs : c.deref.result.now ≡ opened files plan = c.deref.ensures.value ∙ c.in_ok-inputs.ensures.exact in
    subst (λ (os : List LoadedObject). IfOk c.load_all.result (λ v. loaded_views v.objects.items ≡ os)) (whole files plan c.deref.result.now inputs) c.load_all.ensures.loaded

pub returns-clause-good : goal.returns-clause-good
returns-clause-good c =
    let files = held_files c.args.parts.now c.args.files.now in
    let plan = c.args.plan.now in
    let inputs : c.deref.result.now ≡ opened files plan = c.deref.ensures.value ∙ c.in_ok-inputs.ensures.exact in
    on_ok_weaker c.load_all.result
    (all_good files plan (loaded_steps plan (steps c.deref.result.now) []) c.in_ok-inputs.ensures.searchable (whole files plan c.deref.result.now inputs))
    c.load_all.ensures.good

pub returns-clause-stop : goal.returns-clause-stop
returns-clause-stop c =
    let files = held_files c.args.parts.now c.args.files.now in
    let plan = c.args.plan.now in
    let inputs : c.deref.result.now ≡ opened files plan = c.deref.ensures.value ∙ c.in_ok-inputs.ensures.exact in
    let os = loaded_steps plan (steps c.deref.result.now) [] in
    IfErr-weaker c.load_all.result (Refutes (AreLoadable os)) (Refutes (CanLoad files plan))
    (λ e. objects_stop files plan os e (whole files plan c.deref.result.now inputs)) c.load_all.ensures.stop

use Rattle.std.proofs.Common.{◌≡◌, ◌∙◌, List, [], map, subst}
use Rattle.std.specs.Prelude.{IfOk}
use Rattle.std.proofs.lemmas.Result.{IfErr-weaker, on_ok_weaker}
use Rattle.elf_model.specs.Image.MapRecord.{object_row}
use Rattle.elf_model.specs.Inputs.Files.{files_of}
use Rattle.elf_model.specs.Inputs.Opening.{opened}
use Rattle.elf_model.specs.Link.Loading.{LoadedObject}
use Rattle.check_load.specs.Loaders.{AreLoadable}
use Rattle.check_load.specs.Stops.{Refutes}
use Rattle.check_load.specs.Views.{loaded_views}
use Rattle.judge_model.specs.Loaded.{objects_behind}
use Rattle.judge_load.specs.Rows.{CanLoadRows}
use Rattle.judge_load.proofs.RowLaws.{all_good, objects_stop, whole}
use Rattle.judge_load.proofs.rows.load.Goals as goal

pub returns-clause-loaded : goal.returns-clause-loaded
returns-clause-loaded c =
    let files = files_of c.args.files.now in
    let rows = map object_row c.args.rows.now in
    let inputs : c.deref-2.result.now ≡ opened files c.args.plan.now = c.deref-2.ensures.value ∙ c.in_ok-inputs.ensures.exact in
    subst (λ (os : List LoadedObject). IfOk c.load_at-named.result (λ v. loaded_views v.objects.items ≡ os))
    (whole files c.args.plan.now rows c.deref-2.result.now inputs) c.load_at-named.ensures.loaded

pub returns-clause-good : goal.returns-clause-good
returns-clause-good c =
    let files = files_of c.args.files.now in
    let rows = map object_row c.args.rows.now in
    let inputs : c.deref-2.result.now ≡ opened files c.args.plan.now = c.deref-2.ensures.value ∙ c.in_ok-inputs.ensures.exact in
    on_ok_weaker c.load_at-named.result
    (all_good files c.args.plan.now rows (objects_behind c.deref-2.result.now [] rows) c.in_ok-inputs.ensures.searchable
    (whole files c.args.plan.now rows c.deref-2.result.now inputs))
    c.load_at-named.ensures.good

pub returns-clause-stop : goal.returns-clause-stop
returns-clause-stop c =
    let files = files_of c.args.files.now in
    let rows = map object_row c.args.rows.now in
    let inputs : c.deref-2.result.now ≡ opened files c.args.plan.now = c.deref-2.ensures.value ∙ c.in_ok-inputs.ensures.exact in
    let os = objects_behind c.deref-2.result.now [] rows in
    IfErr-weaker c.load_at-named.result (Refutes (AreLoadable os)) (Refutes (CanLoadRows files c.args.plan.now rows))
    (λ e. objects_stop files c.args.plan.now rows os e (whole files c.args.plan.now rows c.deref-2.result.now inputs)) c.load_at-named.ensures.stop

use Rattle.std.proofs.Common.{◌≡◌, ◌∙◌, [], refl, subst}
use Rattle.std.specs.Prelude.{IfOk, List}
use Rattle.elf_model.specs.Inputs.Files.{files_of}
use Rattle.elf_model.specs.Link.Loading.{LoadedObject}
use Rattle.elf_model.specs.Inputs.Opening.{opened}
use Rattle.search.specs.Faults.{IsRefusedOf}
use Rattle.search.proofs.LoadLaws.{refused_in, whole}
use Rattle.search.proofs.load_steps.refused_object.Goals as goal

pub returns-in-Ok : goal.returns-in-Ok
returns-in-Ok c =
    let files = files_of c.args.files.now in
    let plan = c.args.plan.now in
    let inputs : c.deref.result.now ≡ opened files plan = c.deref.ensures.value ∙ c.in-Ok.ensures.exact in
    refused_in files plan c.first_refused.result c.in-Ok.ensures.searchable
    (subst (λ (os : List LoadedObject). IfOk c.first_refused.result (IsRefusedOf os)) (whole files plan plan c.deref.result.now [] refl inputs refl) c.first_refused.ensures)

pub returns-in-Err : goal.returns-in-Err
returns-in-Err c = c.none_reached.ensures (files_of c.args.files.now) c.args.plan.now c.in-Err.ensures.fault

use Rattle.std.proofs.Common.{List, subst}
use Rattle.elf_model.specs.Link.Loading.{LoadedObject}
use Rattle.check_load.specs.Loaders.{AreLoadable, loaded}
use Rattle.check_load.specs.Stops.{Refutes}
use Rattle.check_load.proofs.LoadLaws.{begun}
use Rattle.check_load.proofs.load_steps.load_at.Goals as goal

pub returns-in-Err-clause-stop : goal.returns-in-Err-clause-stop
returns-in-Err-clause-stop c =
    let loader = c.in_ok-loader.loader in
    subst (λ (os : List LoadedObject). Refutes (AreLoadable os) c.in-Err.stop)
    (begun c.args.plan.now loader.plan.now c.args.inputs.now (loaded loader) c.in_ok-loader.ensures.plan c.in_ok-loader.ensures.loaded)
    c.in-Err.ensures.stop

use Rattle.std.proofs.Common.{◌≡◌, ◌∙◌, List, [], ap, subst, sym}
use Rattle.elf_model.specs.Inputs.Command.{Plan}
use Rattle.elf_model.specs.Link.Loading.{AreObjects, HaveLawfulGroups, LoadedObject, loaded_steps, steps}
use Rattle.search.specs.Faults.{FailsOn}
use Rattle.search.specs.Loaders.{loaded}
use Rattle.search.specs.declared.loader.Reached.{Reached}
use Rattle.std.specs.Prelude.{Option}
use Rattle.search.proofs.load_steps.first_refused.Goals as goal

pub returns-in-Ok : goal.returns-in-Ok
returns-in-Ok c =
    let xs = steps c.args.inputs.now in
    let same : loaded_steps c.in_ok-loader.loader.plan.now xs (loaded c.in_ok-loader.loader) ≡ loaded_steps c.args.plan.now xs [] =
    ap (λ (p : Plan). loaded_steps p xs (loaded c.in_ok-loader.loader)) c.in_ok-loader.ensures.plan
    ∙ ap (loaded_steps c.args.plan.now xs) c.in_ok-loader.ensures.loaded in
    let is : loaded c.load_inputs.new.loader ≡ loaded_steps c.args.plan.now xs [] = c.in-Ok.ensures.loaded ∙ same in
    (subst AreObjects is c.in-Ok.ensures.known.objects, subst HaveLawfulGroups is c.in-Ok.ensures.known.lawful)

pub returns : goal.returns
returns c =
    let xs = steps c.args.inputs.now in
    let same : loaded_steps c.in_ok-loader.loader.plan.now xs (loaded c.in_ok-loader.loader) ≡ loaded_steps c.args.plan.now xs [] =
    ap (λ (p : Plan). loaded_steps p xs (loaded c.in_ok-loader.loader)) c.in_ok-loader.ensures.plan
    ∙ ap (loaded_steps c.args.plan.now xs) c.in_ok-loader.ensures.loaded in
    c.refused_at.ensures (loaded_steps c.args.plan.now xs [])
    (subst (λ (r : Option Reached). FailsOn r (loaded_steps c.args.plan.now xs []) c.in-Err.fault) (sym c.reached.ensures)
    (subst (λ (os : List LoadedObject). FailsOn c.load_inputs.new.loader.reached os c.in-Err.fault) same c.in-Err.ensures.fault))

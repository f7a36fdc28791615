use Rattle.std.proofs.Common.{◌≡◌, ◌∙◌, subst, sym}
use Rattle.elf_model.specs.Link.Loading.{AreObjects, HaveLawfulGroups, loaded_steps, steps}
use Rattle.elf_model.specs.Inputs.Opening.{opened}
use Rattle.elf_model.proofs.LoadingLaws.{follows_rules}
use Rattle.opening.specs.Held.{held_files}
use Rattle.search.specs.Loaders.{loaded}
use Rattle.search.proofs.LoadLaws.{objects_fail, whole}
use Rattle.search.proofs.LostSections.{dropped_in_order}
use Rattle.search.proofs.load_steps.load_parts.Goals as goal

pub returns-clause-fault : goal.returns-clause-fault
returns-clause-fault c =
    let files = held_files c.args.parts.now c.args.files.now in
    let plan = c.args.plan.now in
    let inputs : c.deref.result.now ≡ opened files plan = c.deref.ensures.value ∙ c.in_ok-inputs.ensures.exact in
    objects_fail files plan c.load_inputs.new.loader.reached (loaded_steps c.in_ok-loader.loader.plan.now (steps c.deref.result.now) (loaded c.in_ok-loader.loader)) c.in-Err.fault
    (whole files plan c.in_ok-loader.loader.plan.now c.deref.result.now (loaded c.in_ok-loader.loader) c.in_ok-loader.ensures.plan inputs c.in_ok-loader.ensures.loaded)
    c.in_ok-inputs.ensures.searchable c.in-Err.ensures.fault

pub returns-in-Ok-clause-loaded : goal.returns-in-Ok-clause-loaded
returns-in-Ok-clause-loaded c =
    let files = held_files c.args.parts.now c.args.files.now in
    let plan = c.args.plan.now in
    let inputs : c.deref.result.now ≡ opened files plan = c.deref.ensures.value ∙ c.in_ok-inputs.ensures.exact in
    c.in_ok-loaded-in-Ok.ensures.objects
    ∙ (c.into_parts-objects.ensures.loaded
    ∙ (c.in-Ok.ensures.loaded
    ∙ whole files plan c.in_ok-loader.loader.plan.now c.deref.result.now (loaded c.in_ok-loader.loader) c.in_ok-loader.ensures.plan inputs c.in_ok-loader.ensures.loaded))

pub returns-in-Ok-clause-rules : goal.returns-in-Ok-clause-rules
returns-in-Ok-clause-rules c = follows_rules (held_files c.args.parts.now c.args.files.now) c.args.plan.now

pub returns-in-Ok-clause-objects : goal.returns-in-Ok-clause-objects
returns-in-Ok-clause-objects c = subst AreObjects (sym (c.in_ok-loaded-in-Ok.ensures.objects ∙ c.into_parts-objects.ensures.loaded) ∙ returns-in-Ok-clause-loaded c) c.in-Ok.ensures.known.objects

pub returns-in-Ok-clause-groups : goal.returns-in-Ok-clause-groups
returns-in-Ok-clause-groups c = subst HaveLawfulGroups (sym (c.in_ok-loaded-in-Ok.ensures.objects ∙ c.into_parts-objects.ensures.loaded) ∙ returns-in-Ok-clause-loaded c) c.in-Ok.ensures.known.lawful

pub returns-in-Ok-clause-dropped : goal.returns-in-Ok-clause-dropped
returns-in-Ok-clause-dropped c = dropped_in_order (held_files c.args.parts.now c.args.files.now) c.args.plan.now

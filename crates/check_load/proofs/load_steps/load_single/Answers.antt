use Rattle.std.proofs.Common.{◌≡◌, ◌∙◌, List, ℕ, ap, subst, sym}
use Rattle.std.specs.Prelude.{IfErr}
use Rattle.elf_model.specs.Link.Loading.{Single, loaded_step}
use Rattle.elf_model.specs.Inputs.Opening.{Opened}
use Rattle.check_load.specs.Stops.{Refutes}
use Rattle.check_load.specs.Loaders.{AreLoadable, IsLoadable, loaded}
use Rattle.opening.specs.Opened.{item_view}
use Rattle.check_load.proofs.TurnLaws.{single_fails}
use Rattle.check_load.proofs.load_steps.load_single.Goals as goal

pub returns-clause-stop : goal.returns-clause-stop
returns-clause-stop c =
    let plan = c.args.loader.now.plan.now in
    let os = loaded c.args.loader.now in
    let item = item_view c.item-item.result in
    let bytes : c.object_bytes.result.now ≡ item.bytes = c.object_bytes.ensures ∙ ap (λ (o : Opened). o.bytes) (sym c.item-item.ensures) in
    let stops = subst (λ (bs : List ℕ). IfErr c.add.result (Refutes (IsLoadable bs))) bytes c.add.ensures.stop in
    subst (λ (o : Opened). IfErr c.add.result (Refutes (AreLoadable (loaded_step plan (Single o) os)))) c.item-item.ensures
    (single_fails plan c.add.result os item c.if-item.false stops)

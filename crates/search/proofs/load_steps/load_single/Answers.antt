use Rattle.std.proofs.Common.{◌≡◌, ◌∙◌, List, ℕ, ap, subst, sym}
use Rattle.std.specs.Prelude.{IfErr}
use Rattle.elf_model.specs.Link.Loading.{Single, loaded_step, object_behind}
use Rattle.elf_model.specs.Inputs.Opening.{Opened}
use Rattle.search.specs.Faults.{FailsAt, FailsOn, IsReached}
use Rattle.search.specs.Loaders.{loaded}
use Rattle.opening.specs.Opened.{item_view}
use Rattle.search.proofs.TurnLaws.{single_fails}
use Rattle.search.proofs.load_steps.load_single.Goals as goal

pub returns-then-not-item-clause-fault : goal.returns-then-not-item-clause-fault
returns-then-not-item-clause-fault g c =
    let plan = c.args.loader.now.plan.now in
    let os = loaded c.args.loader.now in
    let item = item_view c.item-item.result in
    let bytes : c.object_bytes.result.now ≡ item.bytes = c.object_bytes.ensures ∙ ap (λ (o : Opened). o.bytes) (sym c.item-item.ensures) in
    let reached = subst (λ (bs : List ℕ). IsReached c.add.new.self.reached (object_behind os item 0 bs)) bytes c.add.ensures.reached in
    let fails = subst (λ (bs : List ℕ). IfErr c.add.result (FailsAt bs)) bytes c.add.ensures.fault in
    subst (λ (o : Opened). IfErr c.add.result (FailsOn c.add.new.self.reached (loaded_step plan (Single o) os))) c.item-item.ensures
    (single_fails plan c.add.result c.add.new.self.reached os item c.requires.known.objects c.requires.known.lawful c.if-not-item.true reached fails)

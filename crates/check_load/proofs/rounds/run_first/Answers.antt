use Rattle.std.proofs.Common.{◌≡◌, ◌∙◌, ap, subst}
use Rattle.std.proofs.lemmas.Result.{err_from_is_err_and}
use Rattle.elf_model.specs.Inputs.Command.{Plan}
use Rattle.elf_model.specs.Link.Loading.{round, turn}
use Rattle.check_load.specs.Stops.{Refutes}
use Rattle.check_load.specs.Loaders.{AreLoadable, loaded}
use Rattle.opening.proofs.TurnSteps.{round_later, round_step}
use Rattle.check_load.proofs.TurnLaws.{fails_later}
use Rattle.check_load.proofs.RoundLaws.{all_spent, spent_step}
use Rattle.check_load.proofs.rounds.run_first.Goals as goal

pub returns-in_err-turn-clause-stop : goal.returns-in_err-turn-clause-stop
returns-in_err-turn-clause-stop c =
    let p = err_from_is_err_and c.from_residual.result c.from_residual.ensures.1 in
    let plan = c.args.loader.now.plan.now in
    let os = loaded c.loop-input.loader in
    let o = c.input-item.result in
    let end = round plan c.args.inputs.now (loaded c.args.loader.now) in
    rw (p.1, p.2)
    (fails_later (turn plan o os) end c.in_err-turn.field-0.0
    (round_later plan c.args.inputs.now c.loop-input.input-index o os end c.loop-input-test.true c.input-item.is c.loop-input.invariant.rest)
    (subst (λ (q : Plan). Refutes (AreLoadable (turn q o os)) c.in_err-turn.field-0.0) c.loop-input.invariant.plan c.in_err-turn.ensures.stop))

pub loop-input-preserved : goal.loop-input-preserved
loop-input-preserved c =
    let plan = c.args.loader.now.plan.now in
    let os = loaded c.loop-input.loader in
    let o = c.input-item.result in
    let i = c.loop-input.input-index in
    let inputs = c.args.inputs.now in
    let is : loaded c.turn.new.loader ≡ turn plan o os = c.in_ok-turn.ensures.loaded ∙ ap (λ (q : Plan). turn q o os) c.loop-input.invariant.plan in record {
      plan = c.in_ok-turn.ensures.plan ∙ c.loop-input.invariant.plan;
      known = c.in_ok-turn.ensures.known;
      spent = spent_step plan inputs os (loaded c.turn.new.loader) i o c.input-item.is c.loop-input-test.true is c.loop-input.invariant.spent;
      rest =
          round_step plan inputs i o os (round plan inputs (loaded c.args.loader.now)) c.loop-input-test.true c.input-item.is c.loop-input.invariant.rest
          (loaded c.turn.new.loader) is;
    }

pub returns-clause-spent : goal.returns-clause-spent
returns-clause-spent c =
    all_spent c.args.inputs.now (loaded c.loop-input.loader) c.loop-input.input-index c.loop-input-test.false c.loop-input.invariant.spent

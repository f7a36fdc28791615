use Rattle.std.proofs.Common.{◌≡◌, ◌∙◌, ap, arith, drop, length, subst, sym}
use Rattle.std.proofs.lemmas.Result.{err_from_is_err_and}
use Rattle.elf_model.specs.Inputs.Command.{Plan}
use Rattle.elf_model.specs.Link.Loading.{round, turn}
use Rattle.elf_model.proofs.LoadingBounds.{Extends}
use Rattle.elf_model.proofs.LoadingSteps.{turn_behind}
use Rattle.check_load.specs.Stops.{Refutes}
use Rattle.check_load.specs.Loaders.{AreLoadable, loaded}
use Rattle.check_load.proofs.RoundLaws.{rest_at, round_over, spent_on}
use Rattle.opening.proofs.TurnSteps.{round_later, round_step}
use Rattle.check_load.proofs.TurnLaws.{fails_later}
use Rattle.check_load.proofs.rounds.run_round.Goals as goal

pub returns-in_err-turn-clause-stop : goal.returns-in_err-turn-clause-stop
returns-in_err-turn-clause-stop c =
    let p = err_from_is_err_and c.from_residual.result c.from_residual.ensures.1 in
    let plan = c.args.loader.now.plan.now in
    let os = loaded c.loop-i.loader in
    let o = c.index-inputs-i.result in
    let inputs = c.args.inputs.now in
    let end = round plan inputs (loaded c.args.loader.now) in
    let low = c.in-Some.ensures.inside in
    let rest : round plan (drop c.in-Some.i inputs) os ≡ end =
    rest_at c.args.places.now c.loop-i.loader inputs c.loop-i.from c.in-Some.i plan end c.loop-i.invariant.plan c.loop-i.invariant.known c.requires.at c.requires.archives
    c.loop-i.invariant.spent low.0 (omega (arith, low.1)) c.in-Some.ensures.least c.loop-i.invariant.rest in
    rw (p.1, p.2)
    (fails_later (turn plan o os) end c.in_err-turn.field-0.0 (round_later plan inputs c.in-Some.i o os end low.1 c.index-inputs-i.is rest)
    (subst (λ (q : Plan). Refutes (AreLoadable (turn q o os)) c.in_err-turn.field-0.0) c.loop-i.invariant.plan c.in_err-turn.ensures.stop))

pub loop-i-preserved : goal.loop-i-preserved
loop-i-preserved c =
    let plan = c.args.loader.now.plan.now in
    let os = loaded c.loop-i.loader in
    let o = c.index-inputs-i.result in
    let inputs = c.args.inputs.now in
    let end = round plan inputs (loaded c.args.loader.now) in
    let low = c.in-Some.ensures.inside in
    let is : loaded c.turn.new.loader ≡ turn plan o os = c.in_ok-turn.ensures.loaded ∙ ap (λ (q : Plan). turn q o os) c.loop-i.invariant.plan in
    let rest : round plan (drop c.in-Some.i inputs) os ≡ end =
    rest_at c.args.places.now c.loop-i.loader inputs c.loop-i.from c.in-Some.i plan end c.loop-i.invariant.plan c.loop-i.invariant.known c.requires.at c.requires.archives
    c.loop-i.invariant.spent low.0 (omega (arith, low.1)) c.in-Some.ensures.least c.loop-i.invariant.rest in record {
      plan = c.in_ok-turn.ensures.plan ∙ c.loop-i.invariant.plan;
      known = c.in_ok-turn.ensures.known;
      spent = spent_on inputs os (loaded c.turn.new.loader) (subst (Extends os) (sym is) (turn_behind plan o os)) c.loop-i.invariant.spent;
      within = omega (arith, low.1);
      rest = round_step plan inputs c.in-Some.i o os end low.1 c.index-inputs-i.is rest (loaded c.turn.new.loader) is;
    }

pub returns-clause-loaded : goal.returns-clause-loaded
returns-clause-loaded c =
    let plan = c.args.loader.now.plan.now in
    let inputs = c.args.inputs.now in
    let end = round plan inputs (loaded c.args.loader.now) in
    round_over plan inputs (loaded c.loop-i.loader) end
    (rest_at c.args.places.now c.loop-i.loader inputs c.loop-i.from (length inputs) plan end c.loop-i.invariant.plan c.loop-i.invariant.known c.requires.at
    c.requires.archives c.loop-i.invariant.spent c.loop-i.invariant.within (omega arith) c.in_default.ensures.none c.loop-i.invariant.rest)

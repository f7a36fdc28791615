use Rattle.std.proofs.Common.{◌≡◌, ◌∙◌, ◌<◌, List, ap, sym, subst}
use Rattle.std.specs.Prelude.{◌≢◌}
use Rattle.std.proofs.lemmas.Result.{err_from_is_err_and}
use Rattle.elf_model.specs.Inputs.Command.{Plan}
use Rattle.elf_model.specs.Link.Loading.{LoadedObject, round, rounds}
use Rattle.elf_model.specs.Link.LoadingBounds.{left_of_all}
use Rattle.elf_model.proofs.LoadingBounds.{Extends, extends_length}
use Rattle.elf_model.proofs.LoadingSteps.{round_behind, rounds_from_round, rounds_last, rounds_less, rounds_more}
use Rattle.check_load.specs.Stops.{Refutes}
use Rattle.check_load.specs.Loaders.{AreLoadable, loaded}
use Rattle.check_load.proofs.RoundLaws.{rounds_after, spent_on}
use Rattle.opening.proofs.TurnSteps.{took_some}
use Rattle.check_load.proofs.TurnLaws.{fails_later}
use Rattle.check_load.proofs.rounds.run_rounds.Goals as goal

pub returns-in_err-run_first-clause-stop : goal.returns-in_err-run_first-clause-stop
returns-in_err-run_first-clause-stop c =
    let p = err_from_is_err_and c.from_residual.result c.from_residual.ensures.1 in
    let plan = c.args.loader.now.plan.now in
    let os = loaded c.args.loader.now in
    let inputs = c.args.inputs.now in
    rw (p.1, p.2) (fails_later (round plan inputs os) (rounds plan inputs os) c.in_err-run_first.field-0.0 (rounds_from_round plan inputs os) c.in_err-run_first.ensures.stop)

pub loop-loader-init : goal.loop-loader-init
loop-loader-init c =
    let plan = c.args.loader.now.plan.now in
    let inputs = c.args.inputs.now in record {
      plan = c.in_ok-run_first.ensures.plan;
      known = c.in_ok-run_first.ensures.known;
      spent = c.in_ok-run_first.ensures.spent;
      rest = ap (rounds plan inputs) c.in_ok-run_first.ensures.loaded ∙ rounds_after plan inputs (loaded c.args.loader.now);
    }

pub returns-in_err-run_round-clause-stop : goal.returns-in_err-run_round-clause-stop
returns-in_err-run_round-clause-stop c =
    let p = err_from_is_err_and c.from_residual-in_err-run_round.result c.from_residual-in_err-run_round.ensures.1 in
    let plan = c.args.loader.now.plan.now in
    let os = loaded c.loop-loader.loader in
    let inputs = c.args.inputs.now in
    rw (p.1, p.2)
    (fails_later (round plan inputs os) (rounds plan inputs (loaded c.args.loader.now)) c.in_err-run_round.field-0.0
    (subst (Extends (round plan inputs os)) c.loop-loader.invariant.rest (rounds_from_round plan inputs os))
    (subst (λ (q : Plan). Refutes (AreLoadable (round q inputs os)) c.in_err-run_round.field-0.0) c.loop-loader.invariant.plan c.in_err-run_round.ensures.stop))

pub returns-then-count-before-clause-loaded : goal.returns-then-count-before-clause-loaded
returns-then-count-before-clause-loaded c =
    let plan = c.args.loader.now.plan.now in
    let os = loaded c.loop-loader.loader in
    let inputs = c.args.inputs.now in
    let is : loaded c.run_round.new.loader ≡ round plan inputs os = c.in_ok-run_round.ensures.loaded ∙ ap (λ (q : Plan). round q inputs os) c.loop-loader.invariant.plan in
    let same = sym c.count.ensures ∙ (c.if-count-before.true ∙ c.count-before.ensures) in
    let nothing = extends_length os (loaded c.run_round.new.loader) (subst (Extends os) (sym is) (round_behind plan inputs os)) same in
    nothing ∙ (sym (rounds_last plan inputs os (sym is ∙ nothing)) ∙ c.loop-loader.invariant.rest)

pub loop-loader-smaller : goal.loop-loader-smaller
loop-loader-smaller c =
    let plan = c.args.loader.now.plan.now in
    let os = loaded c.loop-loader.loader in
    let inputs = c.args.inputs.now in
    let is : loaded c.run_round.new.loader ≡ round plan inputs os = c.in_ok-run_round.ensures.loaded ∙ ap (λ (q : Plan). round q inputs os) c.loop-loader.invariant.plan in
    let some : loaded c.run_round.new.loader ≢ os =
    took_some os (loaded c.run_round.new.loader) (λ same. c.if-count-before.false (c.count.ensures ∙ (same ∙ sym c.count-before.ensures))) in
    subst (λ (to : List LoadedObject). left_of_all inputs to < left_of_all inputs os) (sym is) (rounds_less plan inputs os (λ same. some (is ∙ same)))

pub loop-loader-preserved : goal.loop-loader-preserved
loop-loader-preserved c =
    let plan = c.args.loader.now.plan.now in
    let os = loaded c.loop-loader.loader in
    let inputs = c.args.inputs.now in
    let is : loaded c.run_round.new.loader ≡ round plan inputs os = c.in_ok-run_round.ensures.loaded ∙ ap (λ (q : Plan). round q inputs os) c.loop-loader.invariant.plan in
    let some : loaded c.run_round.new.loader ≢ os =
    took_some os (loaded c.run_round.new.loader) (λ same. c.if-count-before.false (c.count.ensures ∙ (same ∙ sym c.count-before.ensures))) in record {
      plan = c.in_ok-run_round.ensures.plan ∙ c.loop-loader.invariant.plan;
      known = c.in_ok-run_round.ensures.known;
      spent = spent_on inputs os (loaded c.run_round.new.loader) (subst (Extends os) (sym is) (round_behind plan inputs os)) c.loop-loader.invariant.spent;
      rest = ap (rounds plan inputs) is ∙ (rounds_more plan inputs os (λ same. some (is ∙ same)) ∙ c.loop-loader.invariant.rest);
    }

use Rattle.std.proofs.Common.{◌≡◌, ◌∙◌, ◌<◌, List, ap, sym, subst}
use Rattle.std.proofs.lemmas.Result.{err_from_is_err_and}
use Rattle.elf_model.specs.Inputs.Command.{Plan}
use Rattle.elf_model.specs.Link.Loading.{LoadedObject, round, rounds}
use Rattle.elf_model.specs.Link.LoadingBounds.{left_of_all}
use Rattle.elf_model.proofs.LoadingBounds.{Extends, extends_length}
use Rattle.elf_model.proofs.LoadingSteps.{round_behind, rounds_from_round, rounds_last, rounds_less, rounds_more}
use Rattle.search.specs.Faults.{FailsOn}
use Rattle.search.specs.Loaders.{loaded}
use Rattle.search.proofs.WaitLaws.{is_later_trans}
use Rattle.opening.proofs.TurnSteps.{took_some}
use Rattle.search.proofs.TurnLaws.{fails_later}
use Rattle.search.proofs.rounds.run_rounds.Goals as goal

pub returns-in_err-run_round-clause-fault : goal.returns-in_err-run_round-clause-fault
returns-in_err-run_round-clause-fault g c =
    let p = err_from_is_err_and c.from_residual-in_err-run_round.result c.from_residual-in_err-run_round.ensures.1 in
    let plan = c.args.loader.now.plan.now in
    let os = loaded c.loop-waits.loader in
    let inputs = c.args.inputs.now in
    rw (p.1, p.2)
    (fails_later c.run_round.new.loader.reached (round plan inputs os) (rounds plan inputs (loaded c.args.loader.now)) c.in_err-run_round.field-0.0
    (subst (Extends (round plan inputs os)) c.loop-waits.invariant.rest (rounds_from_round plan inputs os))
    (subst (λ (q : Plan). FailsOn c.run_round.new.loader.reached (round q inputs os) c.in_err-run_round.field-0.0) c.loop-waits.invariant.later.plan c.in_err-run_round.ensures.fault))

pub returns-then-count-before-clause-loaded : goal.returns-then-count-before-clause-loaded
returns-then-count-before-clause-loaded g c =
    let plan = c.args.loader.now.plan.now in
    let os = loaded c.loop-waits.loader in
    let inputs = c.args.inputs.now in
    let is : loaded c.run_round.new.loader ≡ round plan inputs os = c.in_ok-run_round.ensures.loaded ∙ ap (λ (q : Plan). round q inputs os) c.loop-waits.invariant.later.plan in
    let same = sym c.count.ensures ∙ (c.if-count-before.true ∙ c.count-before.ensures) in
    let nothing = extends_length os (loaded c.run_round.new.loader) (subst (Extends os) (sym is) (round_behind plan inputs os)) same in
    nothing ∙ (sym (rounds_last plan inputs os (sym is ∙ nothing)) ∙ c.loop-waits.invariant.rest)

pub loop-waits-smaller : goal.loop-waits-smaller
loop-waits-smaller g c =
    let os = loaded c.loop-waits.loader in
    let is : loaded c.run_round.new.loader ≡ round c.args.loader.now.plan.now c.args.inputs.now os = c.in_ok-run_round.ensures.loaded ∙ ap (λ (q : Plan). round q c.args.inputs.now os) c.loop-waits.invariant.later.plan in
    let some = took_some os (loaded c.run_round.new.loader) (λ same. c.if-count-before.false (c.count.ensures ∙ (same ∙ sym c.count-before.ensures))) in
    subst (λ (to : List LoadedObject). left_of_all c.args.inputs.now to < left_of_all c.args.inputs.now os) (sym is) (rounds_less c.args.loader.now.plan.now c.args.inputs.now os (λ same. some (is ∙ same)))

pub loop-waits-preserved : goal.loop-waits-preserved
loop-waits-preserved g c =
    let os = loaded c.loop-waits.loader in
    let is : loaded c.run_round.new.loader ≡ round c.args.loader.now.plan.now c.args.inputs.now os = c.in_ok-run_round.ensures.loaded ∙ ap (λ (q : Plan). round q c.args.inputs.now os) c.loop-waits.invariant.later.plan in
    let some = took_some os (loaded c.run_round.new.loader) (λ same. c.if-count-before.false (c.count.ensures ∙ (same ∙ sym c.count-before.ensures))) in record {
      later = is_later_trans c.args.loader.now c.loop-waits.loader c.run_round.new.loader c.loop-waits.invariant.later c.in_ok-run_round.ensures.later;
      known = c.in_ok-run_round.ensures.known;
      covers = c.in_ok-run_round.ensures.covers;
      rest = ap (rounds c.args.loader.now.plan.now c.args.inputs.now) is ∙ (rounds_more c.args.loader.now.plan.now c.args.inputs.now os (λ same. some (is ∙ same)) ∙ c.loop-waits.invariant.rest);
    }

pub returns-then-count-before-clause-later : goal.returns-then-count-before-clause-later
returns-then-count-before-clause-later g c =
    is_later_trans c.args.loader.now c.loop-waits.loader c.run_round.new.loader c.loop-waits.invariant.later c.in_ok-run_round.ensures.later

use Rattle.std.proofs.Common.{◌∙◌, ap, arith, length, refl, subst, sym}
use Rattle.std.proofs.lemmas.Option.{slice_get_read}
use Rattle.std.proofs.lemmas.Result.{err_from_is_err_and}
use Rattle.elf_model.specs.Inputs.Command.{Plan}
use Rattle.elf_model.specs.Link.Loading.{round, turn}
use Rattle.elf_model.specs.Inputs.Opening.{Opened}
use Rattle.search.specs.Faults.{FailsOn}
use Rattle.search.specs.Loaders.{loaded}
use Rattle.opening.proofs.TurnSteps.{round_later, round_step}
use Rattle.search.proofs.TurnLaws.{fails_later, skipped_all, skipped_to}
use Rattle.search.proofs.WaitLaws.{is_later_trans}
use Rattle.search.proofs.rounds.run_round.Goals as goal

pub turn-requires : goal.turn-requires
turn-requires g c = λ κs.
    let xs = c.args.inputs.now in
    let i = c.in-Some.i in
    let x = c.index-inputs-i.result in
    let to = skipped_to c.loop-i.loader c.args.loader.now.plan.now xs c.loop-i.from c.in_ok-i.field-0 i c.loop-i.invariant.later.plan c.in-Some.is c.in_ok-i.ensures.within c.in_ok-i.ensures.idle in (
      (refl, tt),
      (
        c.loop-i.invariant.known,
        (
          ap (λ (o : Opened). o.archive) c.index-inputs-i.is ∙ c.requires.archives i x to.0,
          (slice_get_read xs (length xs) i x refl to.0 c.index-inputs-i.is, c.in_ok-i.ensures.covers),
        ),
      ),
    )

pub returns-in_err-turn-clause-fault : goal.returns-in_err-turn-clause-fault
returns-in_err-turn-clause-fault g c =
    let p = err_from_is_err_and c.from_residual-in_err-turn.result c.from_residual-in_err-turn.ensures.1 in
    let plan = c.args.loader.now.plan.now in
    let xs = c.args.inputs.now in
    let os = loaded c.loop-i.loader in
    let end = round plan xs (loaded c.args.loader.now) in
    let to = skipped_to c.loop-i.loader plan xs c.loop-i.from c.in_ok-i.field-0 c.in-Some.i c.loop-i.invariant.later.plan c.in-Some.is c.in_ok-i.ensures.within c.in_ok-i.ensures.idle in
    rw (p.1, p.2)
    (fails_later c.turn.new.loader.reached (turn plan c.index-inputs-i.result os) end c.in_err-turn.field-0.0 (round_later plan xs c.in-Some.i c.index-inputs-i.result os end to.0 c.index-inputs-i.is (sym to.1 ∙ c.loop-i.invariant.rest))
    (subst (λ (q : Plan). FailsOn c.turn.new.loader.reached (turn q c.index-inputs-i.result os) c.in_err-turn.field-0.0) c.loop-i.invariant.later.plan c.in_err-turn.ensures.fault))

pub loop-i-preserved : goal.loop-i-preserved
loop-i-preserved g c =
    let plan = c.args.loader.now.plan.now in
    let xs = c.args.inputs.now in
    let os = loaded c.loop-i.loader in
    let end = round plan xs (loaded c.args.loader.now) in
    let to = skipped_to c.loop-i.loader plan xs c.loop-i.from c.in_ok-i.field-0 c.in-Some.i c.loop-i.invariant.later.plan c.in-Some.is c.in_ok-i.ensures.within c.in_ok-i.ensures.idle in
    let high = to.0 in record {
      later = is_later_trans c.args.loader.now c.loop-i.loader c.turn.new.loader c.loop-i.invariant.later c.in_ok-turn.ensures.later;
      known = c.in_ok-turn.ensures.known;
      covers = c.in_ok-turn.ensures.covers;
      within = omega (arith, high);
      rest =
          round_step plan xs c.in-Some.i c.index-inputs-i.result os end to.0 c.index-inputs-i.is (sym to.1 ∙ c.loop-i.invariant.rest) (loaded c.turn.new.loader)
          (c.in_ok-turn.ensures.loaded ∙ ap (λ (q : Plan). turn q c.index-inputs-i.result os) c.loop-i.invariant.later.plan);
    }

pub returns-clause-loaded : goal.returns-clause-loaded
returns-clause-loaded g c =
    sym
    (skipped_all c.loop-i.loader c.args.loader.now.plan.now c.args.inputs.now c.loop-i.from c.in_ok-i.field-0 c.loop-i.invariant.later.plan c.in_default.is
    c.loop-i.invariant.within c.in_ok-i.ensures.idle)
    ∙ c.loop-i.invariant.rest

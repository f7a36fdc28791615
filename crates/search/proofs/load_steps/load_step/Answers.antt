use Rattle.std.proofs.Common.{◌≡◌, ◌∙◌, ◌≤◌, List, ℕ, ap, drop, length, refl, subst, sym, take}
use Rattle.std.specs.Prelude.{All, true}
use Rattle.std.proofs.lemmas.Result.{err_from_is_err_and}
use Rattle.elf_model.specs.Link.Loading.{Single, group_of, loaded_step, loaded_steps, rounds, steps}
use Rattle.elf_model.specs.Inputs.Opening.{Opened}
use Rattle.search.specs.Loaders.{loaded}
use Rattle.opening.proofs.StepLaws.{group_first, group_later, run_archives, run_within, same_first, single_later}
use Rattle.search.proofs.TurnLaws.{fails_later}
use Rattle.search.proofs.load_steps.load_step.Goals as goal

pub returns-in_err-load_single-clause-fault : goal.returns-in_err-load_single-clause-fault
returns-in_err-load_single-clause-fault g c =
    let p = err_from_is_err_and c.from_residual.result c.from_residual.ensures.1 in
    let plan = c.args.loader.now.plan.now in
    let os = loaded c.args.loader.now in
    let x = c.index-inputs-0-in_default.result in
    let xs = c.args.inputs.now in
    let same = same_first xs c.index-inputs-0.result x c.requires.some c.index-inputs-0.is c.index-inputs-0-in_default.is in
    let alone = sym c.in_default.is ∙ (c.group_of.ensures ∙ ap group_of same) in
    rw (p.1, p.2)
    (fails_later c.load_single.new.loader.reached (loaded_step plan (Single x) os) (loaded_steps plan (steps xs) os) c.in_err-load_single.field-0.0
    (single_later plan os xs x c.requires.some c.index-inputs-0-in_default.is alone) c.in_err-load_single.ensures.fault)

pub split_at-requires : goal.split_at-requires
split_at-requires g c = subst (λ (n : ℕ). n ≤ length c.args.inputs.now) (sym c.run_length-count.ensures) (run_within c.in-Some.group c.args.inputs.now)

pub run_rounds-requires : goal.run_rounds-requires
run_rounds-requires g c = λ k. (
  (refl, tt),
  (
    c.requires.known,
    subst (All (λ (o : Opened). o.archive ≡ true))
        (sym (c.split_at.ensures.front ∙ ap (λ (n : ℕ). take n c.args.inputs.now) c.run_length-count.ensures)) (run_archives c.in-Some.group c.args.inputs.now),
  ),
)

pub returns-in_err-run_rounds-clause-fault : goal.returns-in_err-run_rounds-clause-fault
returns-in_err-run_rounds-clause-fault g c =
    let p = err_from_is_err_and c.from_residual-in_err-run_rounds.result c.from_residual-in_err-run_rounds.ensures.1 in
    let plan = c.args.loader.now.plan.now in
    let os = loaded c.args.loader.now in
    let run = c.split_at.result.0.now in
    rw (p.1, p.2)
    (fails_later c.run_rounds.new.loader.reached (rounds plan run os) (loaded_steps plan (steps c.args.inputs.now) os) c.in_err-run_rounds.field-0.0
    (group_later plan os c.args.inputs.now c.index-inputs-0.result c.requires.some c.index-inputs-0.is c.in-Some.group (sym c.in-Some.is ∙ c.group_of.ensures) run
    (c.split_at.ensures.front ∙ ap (λ (n : ℕ). take n c.args.inputs.now) c.run_length-count.ensures)) c.in_err-run_rounds.ensures.fault)

pub returns-clause-loaded : goal.returns-clause-loaded
returns-clause-loaded g c =
    let plan = c.args.loader.now.plan.now in
    let os = loaded c.args.loader.now in
    let xs = c.args.inputs.now in
    ap (loaded_steps plan (steps (drop c.run_length-count.result xs)))
    (c.in_ok-run_rounds.ensures.loaded ∙ ap (λ (run : List Opened). rounds plan run os) c.split_at.ensures.front)
    ∙ (ap (λ (n : ℕ). loaded_steps plan (steps (drop n xs)) (rounds plan (take n xs) os)) c.run_length-count.ensures
    ∙ sym (group_first plan os xs c.index-inputs-0.result c.requires.some c.index-inputs-0.is c.in-Some.group (sym c.in-Some.is ∙ c.group_of.ensures)))

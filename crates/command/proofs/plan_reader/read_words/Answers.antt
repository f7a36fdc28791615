use Rattle.std.proofs.Common.{◌∙◌, sym}
use Rattle.std.proofs.lemmas.Result.{err_from_is_err_and}
use Rattle.elf_model.specs.Inputs.Files.{words_of}
use Rattle.command.proofs.Outcomes.{phrases_at, base_at, named_at, only_at, only_memory}
use Rattle.command.proofs.RefusedPhrases.{refused_fails}
use Rattle.command.proofs.plan_reader.read_words.Goals as goal

pub returns-in_err-plan-clause-fault : goal.returns-in_err-plan-clause-fault
returns-in_err-plan-clause-fault c =
    let p = err_from_is_err_and c.from_residual.result c.from_residual.ensures.1 in
    rw (p.1, p.2) (λ m. refused_fails (words_of c.args.words.now) _ _ (c.in_err-plan.ensures.word m))

pub returns-in_err-plan-clause-only : goal.returns-in_err-plan-clause-only
returns-in_err-plan-clause-only c =
    let p = err_from_is_err_and c.from_residual.result c.from_residual.ensures.1 in
    rw (p.1, p.2) (only_memory (words_of c.args.words.now) _ (λ m. refused_fails (words_of c.args.words.now) _ _ (c.in_err-plan.ensures.word m)))

pub returns-clause-phrases : goal.returns-clause-phrases
returns-clause-phrases c = phrases_at (words_of c.args.words.now) c.finish.result (c.in_ok-plan.ensures.plan ∙ sym c.finish.ensures)

pub returns-clause-only : goal.returns-clause-only
returns-clause-only c = only_at (words_of c.args.words.now) c.finish.result (c.in_ok-plan.ensures.plan ∙ sym c.finish.ensures)

pub returns-clause-base : goal.returns-clause-base
returns-clause-base c = base_at (words_of c.args.words.now) c.finish.result (c.in_ok-plan.ensures.plan ∙ sym c.finish.ensures)

pub returns-clause-named : goal.returns-clause-named
returns-clause-named c = named_at (words_of c.args.words.now) c.finish.result (c.in_ok-plan.ensures.plan ∙ sym c.finish.ensures)

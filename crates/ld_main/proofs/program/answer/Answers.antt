use Rattle.std.proofs.Common.{◌≡◌, sym, ◌∙◌}
use Rattle.std.proofs.lemmas.Result.{on_ok_weaker}
use Rattle.ld_main.proofs.program.answer.Goals as goal

pub returns-in-Ok-clause-verdict : goal.returns-in-Ok-clause-verdict
returns-in-Ok-clause-verdict g c p is check low =
    let judged = c.in-Ok.ensures.judged (sym (c.in-Ok.ensures.mode p is) ∙ check) in
    on_ok_weaker c.print.result (λ text. (judged.0, c.in-Ok.outcome, judged.1, c.status.ensures.exact, text)) c.print.ensures.text

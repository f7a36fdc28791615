use Rattle.std.proofs.Common.{◌≡◌, arith}
use Rattle.std.proofs.lemmas.Result.{err_from_is_err_and}
use Rattle.ld_main.proofs.Failures.{passed_on}
use Rattle.ld_main.proofs.program.link_files.Goals as goal

pub returns-in_err-write_outputs-clause-words_alone : goal.returns-in_err-write_outputs-clause-words_alone
returns-in_err-write_outputs-clause-words_alone g c =
    let high = c.in_err-write_outputs.ensures.least in
    passed_on _ c.from_residual.result c.in_err-write_outputs.field-0.0 (err_from_is_err_and c.from_residual.result c.from_residual.ensures.1)
    (λ two. absurd (omega (arith, two, high)))

pub returns-in_err-write_outputs-clause-unwritten : goal.returns-in_err-write_outputs-clause-unwritten
returns-in_err-write_outputs-clause-unwritten g c =
    passed_on _ c.from_residual.result c.in_err-write_outputs.field-0.0 (err_from_is_err_and c.from_residual.result c.from_residual.ensures.1)
    c.in_err-write_outputs.ensures.told

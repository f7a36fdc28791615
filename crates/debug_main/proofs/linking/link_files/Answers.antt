use Rattle.std.proofs.lemmas.Result.{err_from_is_err_and}
use Rattle.ld_main.proofs.Failures.{passed_on}
use Rattle.debug_main.proofs.linking.link_files.Goals as goal

pub returns-in_err-write_link-clause-words_alone : goal.returns-in_err-write_link-clause-words_alone
returns-in_err-write_link-clause-words_alone g c =
    passed_on _ c.from_residual.result c.in_err-write_link.field-0.0 (err_from_is_err_and c.from_residual.result c.from_residual.ensures.1)
    (λ two. absurd (c.in_err-write_link.ensures.status two))

pub returns-in_err-write_link-clause-unwritten : goal.returns-in_err-write_link-clause-unwritten
returns-in_err-write_link-clause-unwritten g c =
    passed_on _ c.from_residual.result c.in_err-write_link.field-0.0 (err_from_is_err_and c.from_residual.result c.from_residual.ensures.1)
    c.in_err-write_link.ensures.unwritten

use Rattle.std.proofs.Common.{List, ℕ, subst}
use Rattle.std.specs.Prelude.{IfErr}
use Rattle.elf_model.specs.Inputs.ArchiveFile.{ArFaultStands}
use Rattle.std.proofs.lemmas.Result.{err_from_is_err_and}
use Rattle.ar_index.proofs.Steps.{only_memory, passed}
use Rattle.ar_index.proofs.archive.Archive.read.Goals as goal

pub returns-in_err-judge_beginning-clause-only : goal.returns-in_err-judge_beginning-clause-only
returns-in_err-judge_beginning-clause-only c =
    let exit = c.from_residual in
    only_memory c.args.view exit.result
    (passed c.args.view exit.result c.in_err-judge_beginning.field-0.0 (err_from_is_err_and exit.result exit.ensures.1) c.in_err-judge_beginning.ensures.fault)

pub returns-in_err-stored-clause-only : goal.returns-in_err-stored-clause-only
returns-in_err-stored-clause-only c =
    let exit = c.from_residual-in_err-stored in
    only_memory c.args.view exit.result
    (passed c.args.view exit.result c.in_err-stored.field-0.0 (err_from_is_err_and exit.result exit.ensures.1) c.in_err-stored.ensures.fault)

pub returns-clause-fault : goal.returns-clause-fault
returns-clause-fault c = subst (λ (bytes : List ℕ). IfErr c.archive_of.result (ArFaultStands bytes)) c.bytes.ensures c.archive_of.ensures.fault

pub returns-clause-only : goal.returns-clause-only
returns-clause-only c = only_memory c.args.view c.archive_of.result (returns-clause-fault c)

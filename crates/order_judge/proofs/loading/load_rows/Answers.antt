use Rattle.std.proofs.Common.{List, subst}
use Rattle.std.proofs.lemmas.Result.{err_from_is_err_and}
use Rattle.elf_model.specs.Link.Loading.{LoadedObject}
use Rattle.check_load.specs.Loaders.{AreLoadable, loaded}
use Rattle.check_load.specs.Stops.{Refutes}
use Rattle.check_load.proofs.TurnLaws.{fails_later}
use Rattle.judge_load.proofs.RowLaws.{later_rows}
use Rattle.order_judge.proofs.loading.load_rows.Goals as goal

pub returns-in_err-load_row-clause-stop : goal.returns-in_err-load_row-clause-stop
returns-in_err-load_row-clause-stop c =
    let p = err_from_is_err_and c.from_residual.result c.from_residual.ensures.1 in
    rw (p.1, p.2)
    (subst (λ (os : List LoadedObject). Refutes (AreLoadable os) c.in_err-load_row.field-0.0) c.loop-row.invariant.rest
    (fails_later _ _ c.in_err-load_row.field-0.0
    (later_rows c.args.inputs.now (loaded c.loop-row.loader) c.args.rows.now c.loop-row.row-index c.row-item.result c.loop-row-test.true c.row-item.is)
    c.in_err-load_row.ensures.stop))

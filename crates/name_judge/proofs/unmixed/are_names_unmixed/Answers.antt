use Rattle.name_judge.proofs.MixedLaw.{unmixed_by}
use Rattle.name_judge.proofs.unmixed.are_names_unmixed.Goals as goal

pub returns : goal.returns
returns c = λ l objects pieces names.
    unmixed_by l c.args.names.now c.args.outputs.now c.args.rows.now c.are_rows_unmixed.result objects pieces names c.are_rows_unmixed.ensures

use Rattle.std.proofs.Common.{drop}
use Rattle.std.specs.Prelude.{◌↔◌, All}
use Rattle.judge_model.specs.Certificates.{name_row}
use Rattle.name_judge.specs.Unmixed.{IsRowUnmixed}
use Rattle.name_judge.proofs.unmixed.are_rows_unmixed.Given as goal

abbrev pub invariant-loop-row : goal.invariant-loop-row
invariant-loop-row l =
    All (λ r. IsRowUnmixed l.names l.outputs (name_row r)) l.rows ↔ All (λ r. IsRowUnmixed l.names l.outputs (name_row r)) (drop l.row-index l.rows)

use Rattle.std.proofs.Common.{drop}
use Rattle.std.specs.Prelude.{◌↔◌, All}
use Rattle.judge_model.specs.Certificates.{name_row}
use Rattle.name_judge.specs.Bounds.{IsRowRight}
use Rattle.name_judge.proofs.rows.are_rows_right.Given as goal

abbrev pub invariant-loop-row : goal.invariant-loop-row
invariant-loop-row l =
    All (λ r. IsRowRight l.parts l.marks l.spans (name_row r)) l.rows
    ↔ All (λ r. IsRowRight l.parts l.marks l.spans (name_row r)) (drop l.row-index l.rows)

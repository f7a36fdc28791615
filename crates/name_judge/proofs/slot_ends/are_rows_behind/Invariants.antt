use Rattle.std.proofs.Common.{drop}
use Rattle.std.specs.Prelude.{◌↔◌, All}
use Rattle.judge_model.specs.Certificates.{name_row}
use Rattle.name_judge.specs.Bounds.{IsRowBehind}
use Rattle.name_judge.proofs.slot_ends.are_rows_behind.Given as goal

abbrev pub invariant-loop-row : goal.invariant-loop-row
invariant-loop-row l =
    All (λ r. IsRowBehind l.parts l.all l.before (name_row r)) l.rows ↔ All (λ r. IsRowBehind l.parts l.all l.before (name_row r)) (drop l.row-index l.rows)

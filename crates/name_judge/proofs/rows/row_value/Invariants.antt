use Rattle.std.proofs.Common.{◌≡◌, drop, map}
use Rattle.std.specs.Prelude.{find}
use Rattle.judge_model.specs.Certificates.{is_row_of, name_row}
use Rattle.name_judge.proofs.rows.row_value.Given as goal

abbrev pub invariant-loop-row : goal.invariant-loop-row
invariant-loop-row l = find (is_row_of l.name) (map name_row (drop l.row-index l.rows)) ≡ find (is_row_of l.name) (map name_row l.rows)

use Rattle.std.proofs.Common.{◌≡◌, ℕ, List, drop, map}
use Rattle.std.specs.Prelude.{find, option_map}
use Rattle.std.specs.Option.{option_or}
use Rattle.check_link.specs.ByName.{found_in}
use Rattle.judge_model.specs.Certificates.{is_row_of, name_row, value_of_name}
use Rattle.symbol_judge.proofs.name_values.index_rows.Given as goal

abbrev pub invariant-loop-row : goal.invariant-loop-row
invariant-loop-row l =
    (name : List ℕ) → option_or (found_in l.index name) (option_map (λ row. row.value) (find (is_row_of name) (map name_row (drop l.row-index l.rows))))
    ≡ value_of_name (map name_row l.rows) name

use Rattle.std.proofs.Common.{◌≡◌, ◌++◌, drop, map}
use Rattle.order_judge.specs.Origins.{origin_of_line, origin_of_pair}
use Rattle.order_judge.proofs.origins.origins_of_lines.Given as goal

abbrev pub invariant-loop-row : goal.invariant-loop-row
invariant-loop-row l = map origin_of_pair l.origins.items ++ map origin_of_line (drop l.row-index l.rows) ≡ map origin_of_line l.rows

use Rattle.std.proofs.Common.{drop}
use Rattle.std.specs.Prelude.{Any}
use Rattle.field_judge.specs.Given.{Given, IsGiven}
use Rattle.field_judge.specs.Rewritten.{IsRewrittenIn, instruction_view}
use Rattle.field_judge.proofs.rewritten.is_by_one.Given as goal

abbrev pub invariant-loop-row : goal.invariant-loop-row
invariant-loop-row l =
    (g : Given) → IsGiven l.image l.asked g → Any (IsRewrittenIn l.image l.taken g l.kind l.front (instruction_view l.i)) l.rows
    → Any (IsRewrittenIn l.image l.taken g l.kind l.front (instruction_view l.i)) (drop l.row-index l.rows)

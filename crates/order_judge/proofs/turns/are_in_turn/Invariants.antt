use Rattle.std.proofs.Common.{drop, map}
use Rattle.std.specs.Prelude.{AllPairs}
use Rattle.elf_model.proofs.Rests.{Left}
use Rattle.order_judge.specs.Origins.{origin_of_line}
use Rattle.order_judge.specs.Turns.{AreInTurnBehind, AreOriginsInTurn}
use Rattle.order_judge.proofs.turns.are_in_turn.Given as goal

abbrev pub invariant-loop-row : goal.invariant-loop-row
invariant-loop-row l =
    Left (AllPairs (AreOriginsInTurn l.inputs) (map origin_of_line l.rows)) (AreInTurnBehind l.inputs l.last (map origin_of_line (drop l.row-index l.rows)))

use Rattle.std.proofs.Common.{take}
use Rattle.std.specs.Prelude.{All}
use Rattle.merge_judge.specs.Areas.{IsHeld}
use Rattle.merge_judge.proofs.areas.are_held.Given as goal

abbrev pub invariant-loop-a : goal.invariant-loop-a
invariant-loop-a l = All (IsHeld l.anyway l.segments) (take l.a-index l.areas)

use Rattle.std.proofs.Common.{drop}
use Rattle.std.specs.Prelude.{All, ◌↔◌}
use Rattle.place_judge.specs.Places.{IsStartIn}
use Rattle.place_judge.proofs.starts.do_all_start.Given as goal

abbrev pub invariant-loop-start : goal.invariant-loop-start
invariant-loop-start l = All (IsStartIn l.spans) l.starts ↔ All (IsStartIn l.spans) (drop l.start-index l.starts)

use Rattle.std.proofs.Common.{drop}
use Rattle.std.specs.Prelude.{◌↔◌, All}
use Rattle.table_judge.specs.Sections.{IsTrueIn}
use Rattle.table_judge.proofs.sections.are_true_in.Given as goal

abbrev pub invariant-loop-h : goal.invariant-loop-h
invariant-loop-h l = All (IsTrueIn l.file) l.headers ↔ All (IsTrueIn l.file) (drop l.h-index l.headers)

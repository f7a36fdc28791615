use Rattle.std.proofs.Common.{drop}
use Rattle.std.specs.Prelude.{All, ◌↔◌}
use Rattle.judge_model.specs.Headers.{IsSingle}
use Rattle.foreign_image.proofs.table.are_single.Given as goal

abbrev pub invariant-loop-kind : goal.invariant-loop-kind
invariant-loop-kind l = All (IsSingle l.headers) l.types ↔ All (IsSingle l.headers) (drop l.kind-index l.types)

use Rattle.std.proofs.Common.{drop}
use Rattle.std.specs.Prelude.{Any}
use Rattle.symbol_judge.specs.Locals.{IsLocalBy}
use Rattle.symbol_judge.proofs.locals.any_local.Given as goal

abbrev pub invariant-loop-local : goal.invariant-loop-local
invariant-loop-local l = Any (IsLocalBy l.sections l.number l.entry) l.part → Any (IsLocalBy l.sections l.number l.entry) (drop l.local-index l.part)

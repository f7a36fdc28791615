use Rattle.std.proofs.Common.{Option, IfSome, subst}
use Rattle.explain_check.specs.Places.{FailsIn}
use Rattle.explain_check.specs.declared.place.CheckPlace.{CheckPlace}
use Rattle.explain_check.proofs.found.Found.add_some.Goals as goal

pub returns-in-Some : goal.returns-in-Some
returns-in-Some c = λ s so holds. c.add.ensures.fails s so (subst (λ (x : Option CheckPlace). IfSome x (FailsIn s)) c.in-Some.is holds)

use Rattle.std.proofs.Common.{sym, subst}
use Rattle.std.specs.Prelude.{All}
use Rattle.std.proofs.lemmas.List.Elements.{All-push}
use Rattle.explain_check.specs.Places.{IsOf}
use Rattle.explain_check.proofs.found.Found.add.Goals as goal

pub returns-clause-of : goal.returns-clause-of
returns-clause-of c = λ s clause before of.
    subst (All (IsOf s clause)) (sym c.in_ok-push.ensures.items) (All-push (IsOf s clause) c.args.self.now.places.items c.args.place before of)

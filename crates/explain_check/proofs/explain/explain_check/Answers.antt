use Rattle.std.proofs.Common.{Err, Ok, Result, arith, subst, sym}
use Rattle.std.specs.Prelude.{All, IfOk}
use Rattle.std.proofs.lemmas.Grind.{common_steps}
use Rattle.std.proofs.lemmas.List.Elements.{All-weaker}
use Rattle.explain_check.specs.Places.{FailsAt, FailsIn, IsFirst, IsOf, clause_of}
use Rattle.explain_check.specs.declared.found.Found.{Found}
use Rattle.explain_check.specs.declared.place.CheckPlace.{CheckPlace}
use Rattle.explain_check.proofs.explain.explain_check.Goals as goal

-- what follows from a fact of a place holds of all that are told
each :
    {E : Type 0} (P Q : CheckPlace → Type 0) (r : Result Found E) → IfOk r (λ f. All P f.places.items) → ((p : CheckPlace) → P p → Q p) →
    IfOk r (λ f. All Q f.places.items)
each P Q (Ok f) all more = All-weaker P Q more f.places.items all
each P Q (Err e) all more = all

pub returns : goal.returns
returns c =
    let s = c.args.link.now in
    let verdict = rw c.in-No.is at c.in_ok-judge.ensures.verdict in
    let is = IsOf s c.in-No.clause in
    let found = c.of_clause.result in
    let of = c.of_clause.ensures.of s c.in_ok-judge.ensures.saw verdict.1 in record {
      fails = each is (FailsIn s) found of (λ p o. o.fails);
      first =
          each is (λ p. IsFirst s (clause_of p)) found of
          (λ p o. subst (IsFirst s) (sym o.clause) (record { before = verdict.0; fails = verdict.1 }));
      few = c.of_clause.ensures.few;
      some = grind (arith, common_steps);
      read =
          λ words bytes read. each is (FailsAt s.files words s.image bytes) found of
          (λ p o. record { plan = s.plan; map = s.map; read = read; fails = o.fails });
    }

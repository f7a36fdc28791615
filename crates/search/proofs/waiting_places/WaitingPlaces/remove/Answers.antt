use Rattle.std.proofs.Common.{◌≡◌, ◌∙◌, arith, true}
use Rattle.search.specs.Places.{is_waiting}
use Rattle.search.proofs.PlaceLaws.{removed}
use Rattle.search.proofs.waiting_places.WaitingPlaces.remove.Goals as goal

pub returns-clause-rest : goal.returns-clause-rest
returns-clause-rest c = removed c.args.self.now _ c.args.place c.remove.ensures.updates

pub returns-clause-fewer : goal.returns-clause-fewer
unfolding is_waiting
returns-clause-fewer c = λ waited.
    let there : c.remove.result ≡ true = c.remove.ensures.test ∙ waited in
    let counted = rw there at c.remove.ensures.len in
    omega (arith, counted)

use Rattle.search.proofs.PlaceLaws.{added}
use Rattle.search.proofs.waiting_places.WaitingPlaces.add.Goals as goal

pub returns : goal.returns
returns c = added c.args.self.now _ c.args.place c.in_ok-insert.ensures.updates

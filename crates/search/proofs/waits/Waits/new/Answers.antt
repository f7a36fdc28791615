use Rattle.search.proofs.WaitLaws.{covers_now}
use Rattle.search.proofs.waits.Waits.new.Goals as goal

pub returns : goal.returns
returns g c = covers_now c.args.loader.now c.args.inputs.now _ c.in_ok-places_of.ensures c.in_ok-waiting_now.ensures c.request_count.ensures

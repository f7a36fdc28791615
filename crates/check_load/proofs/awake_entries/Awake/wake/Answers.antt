use Rattle.check_load.proofs.AwakeLaws.{woken}
use Rattle.check_load.proofs.awake_entries.Awake.wake.Goals as goal

pub returns : goal.returns
returns c = woken c.args.self.now _ c.args.place c.in_ok-insert.ensures.updates

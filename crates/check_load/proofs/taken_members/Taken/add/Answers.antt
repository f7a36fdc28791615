use Rattle.check_load.proofs.TakenLaws.{item_added, member_added}
use Rattle.check_load.proofs.taken_members.Taken.add.Goals as goal

pub returns-clause-members : goal.returns-clause-members
returns-clause-members c = member_added c.args.self.now _ c.args.item c.args.offset c.in_ok-insert.ensures.updates

pub returns-clause-items : goal.returns-clause-items
returns-clause-items c = item_added c.args.self.now _ c.args.item c.in_ok-insert-2.ensures.updates

use Rattle.unread_law.proofs.PartLinks.{right_of_all}
use Rattle.unread_law.proofs.parts_are_enough.Goals as goal

pub returns : goal.returns
returns c = right_of_all

use Rattle.check_load.specs.Places.{none_asked}
use Rattle.check_load.proofs.names.note_root.Goals as goal

pub returns-clause-woken : goal.returns-clause-woken
returns-clause-woken c = c.in_ok-note_name.ensures.woken none_asked

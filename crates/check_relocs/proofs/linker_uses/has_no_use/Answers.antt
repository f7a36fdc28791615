use Rattle.check_relocs.proofs.NoUses.{was_false}
use Rattle.check_relocs.proofs.linker_uses.has_no_use.Goals as goal

pub returns : goal.returns
returns c = λ e. c.has_use.ensures (was_false c.has_use.result e)

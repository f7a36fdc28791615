use Rattle.opening.proofs.FaultLaws.{not_searchable}
use Rattle.search.proofs.load_steps.none_reached.Goals as goal

pub returns-in_default : goal.returns-in_default
returns-in_default c = λ files plan bad there. absurd (not_searchable files plan c.args.fault c.in_default.not-Memory bad there)

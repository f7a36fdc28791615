use Rattle.check_load.proofs.NotedNames.{none_defined, none_requested}
use Rattle.check_load.proofs.known_names.KnownNames.new.Goals as goal

pub returns-clause-requested : goal.returns-clause-requested
returns-clause-requested c = λ n. none_requested _ c.new-2.ensures.items n

pub returns-clause-defined : goal.returns-clause-defined
returns-clause-defined c = λ n. none_defined _ c.new-2.ensures.items n

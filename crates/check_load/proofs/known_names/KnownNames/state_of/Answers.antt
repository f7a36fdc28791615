use Rattle.std.proofs.Common.{ap}
use Rattle.check_load.specs.Names.{requests_name, defines_name}
use Rattle.check_load.specs.declared.known_names.NameState.{NameState}
use Rattle.check_load.proofs.NotedNames.{state_found, state_missed}
use Rattle.check_load.proofs.known_names.KnownNames.state_of.Goals as goal

pub returns-in-Some-clause-requested : goal.returns-in-Some-clause-requested
unfolding requests_name
returns-in-Some-clause-requested c = ap (λ (s : NameState). s.requested) (state_found c.args.self.now c.args.name.now c.in-Some.state.now c.in-Some.ensures)

pub returns-in-Some-clause-defined : goal.returns-in-Some-clause-defined
unfolding defines_name
returns-in-Some-clause-defined c = ap (λ (s : NameState). s.defined) (state_found c.args.self.now c.args.name.now c.in-Some.state.now c.in-Some.ensures)

pub returns-in-None-clause-requested : goal.returns-in-None-clause-requested
unfolding requests_name
returns-in-None-clause-requested c = ap (λ (s : NameState). s.requested) (state_missed c.args.self.now c.args.name.now c.in-None.ensures)

pub returns-in-None-clause-defined : goal.returns-in-None-clause-defined
unfolding defines_name
returns-in-None-clause-defined c = ap (λ (s : NameState). s.defined) (state_missed c.args.self.now c.args.name.now c.in-None.ensures)

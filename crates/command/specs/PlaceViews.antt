-- A plan so far and its place, as clauses see them.
use Rattle.elf_model.specs.Inputs.Command.{Plan}
use Rattle.command.specs.declared.plan_reader.Place.{Place}
use Rattle.command.specs.Steps.{State}

abbrev pub state_of : Plan → Place → State
state_of plan place = record { plan = plan; whole = place.whole; group = place.group; groups = place.groups }

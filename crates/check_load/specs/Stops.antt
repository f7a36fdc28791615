-- What a stop says.
use Rattle.opening.specs.declared.faults.OpenFault.{OpenFault}
use Rattle.opening.specs.declared.faults.OpenFault.TheVariants as open_fault
use Rattle.check_load.specs.declared.stops.Stop.{Stop}
use Rattle.check_load.specs.declared.stops.Stop.TheVariants as stop

-- a fact fails, or memory was refused
abbrev pub Refutes : Type 0 → Stop → Type 0
Refutes P stop.Memory = Unit {0}
Refutes P stop.Unlawful = P → ⊥

-- what items that can't be read stop
abbrev pub stop_of : OpenFault → Stop
stop_of open_fault.Memory = stop.Memory
stop_of _ = stop.Unlawful

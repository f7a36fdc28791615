-- What a fault says.
use Rattle.std.specs.Prelude.{List}
use Rattle.elf_model.specs.Image.MapRecord.{ObjectRow}
use Rattle.elf_model.specs.Inputs.Command.{Plan}
use Rattle.elf_model.specs.Inputs.Files.{File}
use Rattle.judge_model.specs.Loaded.{AreReadable, IsLoaded}
use Rattle.opening.specs.declared.faults.OpenFault.{OpenFault}
use Rattle.opening.specs.declared.faults.OpenFault.TheVariants as open_fault
use Rattle.order_judge.specs.declared.faults.OrderFault.{OrderFault}
use Rattle.order_judge.specs.declared.faults.OrderFault.TheVariants as fault

-- what items that can't be read say
abbrev pub fault_of : OpenFault → OrderFault
fault_of open_fault.Memory = fault.Memory
fault_of _ = fault.Unreadable

-- the inputs can't be read; or they can, and the lines aren't right
abbrev pub Says : List File → Plan → List ObjectRow → OrderFault → Type 0
Says files plan rows fault.Memory = Unit {0}
Says files plan rows fault.Unreadable = ¬ AreReadable files plan
Says files plan rows fault.Unordered = AreReadable files plan × (¬ IsLoaded files plan rows)

-- memory was refused, or the inputs can't be read
abbrev pub AreRefused : List File → Plan → OrderFault → Type 0
AreRefused files plan fault.Memory = Unit {0}
AreRefused files plan fault.Unreadable = ¬ AreReadable files plan
AreRefused files plan fault.Unordered = ⊥

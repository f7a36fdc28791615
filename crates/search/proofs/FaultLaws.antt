-- Faults of objects and groups as those of loading.
use Rattle.std.proofs.Common.{ℕ, List}
use Rattle.elf_model.specs.Link.Groups.{GroupFaultStands}
use Rattle.elf_model.specs.Inputs.ObjectFile.{IsObject, ObjFaultStands, groups}
use Rattle.elf_model.specs.declared.faults.GroupFault.{GroupFault}
use Rattle.elf_model.specs.declared.faults.GroupFault.TheVariants as group_fault
use Rattle.elf_model.specs.declared.faults.ObjFault.{ObjFault}
use Rattle.elf_model.specs.declared.faults.ObjFault.TheVariants as object_fault
use Rattle.search.specs.Faults.{FailsAt, of_groups, of_object}

pub object_fails : (bytes : List ℕ) (f : ObjFault) → ObjFaultStands bytes f → FailsAt bytes (of_object f)
object_fails bytes object_fault.Memory s = tt
object_fails bytes object_fault.Truncated s = (λ m. cc, s)
object_fails bytes object_fault.NotElf64 s = (λ m. cc, s)
object_fails bytes object_fault.NotRelocatable s = (λ m. cc, s)
object_fails bytes object_fault.WrongMachine s = (λ m. cc, s)
object_fails bytes object_fault.BadSectionTable s = (λ m. cc, s)
object_fails bytes object_fault.BadSectionRange s = (λ m. cc, s)
object_fails bytes object_fault.BadString s = (λ m. cc, s)
object_fails bytes object_fault.BadSymbolTable s = (λ m. cc, s)
object_fails bytes object_fault.BadRela s = (λ m. cc, s)
object_fails bytes object_fault.BadGroup s = (λ m. cc, s)
object_fails bytes object_fault.TooMany s = (λ m. cc, s)

pub groups_fail : (bytes : List ℕ) (f : GroupFault) → IsObject bytes → GroupFaultStands (groups bytes) f → FailsAt bytes (of_groups f)
groups_fail bytes group_fault.Memory o s = tt
groups_fail bytes group_fault.NamelessSignature o s = (λ m. cc, o, s)
groups_fail bytes group_fault.BadFlags o s = (λ m. cc, o, s)
groups_fail bytes group_fault.TwoGroups o s = (λ m. cc, o, s)

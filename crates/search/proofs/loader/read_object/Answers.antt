use Rattle.std.proofs.Common.{ℕ, List, subst, sym}
use Rattle.elf_model.specs.Inputs.ObjectFile.{ObjFaultStands}
use Rattle.search.specs.Faults.{FailsAt}
use Rattle.search.proofs.FaultLaws.{object_fails}
use Rattle.search.proofs.loader.read_object.Goals as goal

pub returns-in-Err-clause-fault : goal.returns-in-Err-clause-fault
returns-in-Err-clause-fault c =
    subst (FailsAt c.args.bytes.now) (sym c.object_fault.ensures)
    (object_fails c.args.bytes.now c.in-Err.fault
    (subst (λ (bytes : List ℕ). ObjFaultStands bytes c.in-Err.fault) c.new.ensures c.in-Err.ensures.fault))

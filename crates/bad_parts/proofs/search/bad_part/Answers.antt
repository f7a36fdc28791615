use Rattle.std.proofs.Common.{rules, ◌≡◌, IfSome, Option, None, Some, sym}
use denote.Enum.Bare.{same_true}
use Rattle.elf_model.specs.Inputs.ObjectFile.{ObjFaultStands}
use Rattle.elf_model.specs.contracts.faults.ObjFault.{the_type}
use Rattle.bad_parts.proofs.search.bad_part.Goals as goal

always : {X : Type 0} (P : Type 0) (o : Option X) → P → IfSome o (λ _. P)
always P None p = search rules
always P (Some x) p = p

pub returns-in-Some-clause-stands : goal.returns-in-Some-clause-stands
returns-in-Some-clause-stands c =
    let same : c.in-Err.found ≡ c.args.fault = same_true the_type (search rules) _ _ c.if-found-fault.true in
    let stands : ObjFaultStands c.new.result c.in-Err.found = c.in-Err.ensures.fault in
    always _ c.part_of_fault.result (rw (sym c.new.ensures, sym same) stands)

use Rattle.std.proofs.Common.{◌≡◌, ℕ, List, Some, false, inr, rules, subst}
use Rattle.std.specs.Prelude.{◌≢◌}
use Rattle.elf_model.specs.Inputs.ObjectFile.{ObjFaultStands}
use Rattle.elf_model.specs.declared.faults.ObjFault.TheVariants as object_fault
use Rattle.item_flaws.proofs.objects.add_opened.Goals as goal

pub returns : goal.returns
returns c =
    let p = c.reached-at.result in
    let fault = c.in-Some.fault in
    let bad : (fault ≢ object_fault.Memory) × ObjFaultStands p.bytes.now fault = rw c.in-Some.is at c.in_ok-fault.ensures.some in
    let object : c.args.item.now.archive ≡ false = search rules in
    let other : c.args.stop ≢ Some c.args.item.now.number = search rules in
    inr (inr (inr (
      p,
      fault,
      other,
      c.reached-at.ensures.at,
      bad.0,
      (object, subst (λ (bytes : List ℕ). ObjFaultStands bytes fault) c.reached-at.ensures.at.bytes bad.1),
      c.in_ok-push.ensures.items,
    )))

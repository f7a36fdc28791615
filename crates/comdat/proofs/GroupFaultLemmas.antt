-- Faults of an object's groups.
use Rattle.std.proofs.Common.{◌≡◌, List, Result, Ok, Err, refl, ap, sym, subst, ◌∙◌}
use Rattle.std.specs.Prelude.{IfErr}
use Rattle.elf_model.specs.Link.Groups.{AreLawfulGroups, GroupFaultStands}
use Rattle.elf_model.specs.Inputs.ObjectFile.{Group}
use Rattle.elf_model.specs.declared.faults.GroupFault.{GroupFault}
use Rattle.elf_model.specs.declared.faults.GroupFault.TheVariants as fault

-- of lawful groups no fault but want of memory stands
pub only : (gs : List Group) (f : GroupFault) → AreLawfulGroups gs → GroupFaultStands gs f → f ≡ fault.Memory
only gs fault.Memory lawful stands = refl
only gs fault.NamelessSignature lawful stands = absurd (stands lawful.named)
only gs fault.BadFlags lawful stands = absurd (stands lawful.flags)
only gs fault.TwoGroups lawful stands = absurd (stands lawful.apart)

pub only_memory : {X : Type 0} (gs : List Group) (r : Result X GroupFault) → IfErr r (GroupFaultStands gs) → AreLawfulGroups gs → IfErr r (λ f. f ≡ fault.Memory)
only_memory gs (Ok x) stands lawful = stands
only_memory gs (Err f) stands lawful = only gs f lawful stands

-- what `?` returns of a fault that stands
pub passed : {X : Type 0} (gs : List Group) (r : Result X GroupFault) (f : GroupFault) → (y : GroupFault) × (r ≡ Err y) × (y ≡ f) → GroupFaultStands gs f
    → IfErr r (GroupFaultStands gs)
passed {X} gs r f out stands = subst (λ (q : Result X GroupFault). IfErr q (GroupFaultStands gs)) (sym (out.1 ∙ ap Err out.2)) stands

use Rattle.std.proofs.Common.{List, ℕ, subst, sym}
use Rattle.std.proofs.lemmas.Option.{none-some}
use Rattle.elf_model.specs.Inputs.ObjectFile.{ObjFaultStands}
use Rattle.item_flaws.proofs.objects.fault_of.Goals as goal

pub returns : goal.returns
returns c =
    let fault = c.in-Err.fault in
    record {
      none = λ is. absurd (none-some fault (sym is));
      some = (c.in_default.not-Memory, subst (λ (bytes : List ℕ). ObjFaultStands bytes fault) c.new.ensures c.in-Err.ensures.fault);
    }

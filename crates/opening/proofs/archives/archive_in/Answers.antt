use Rattle.std.proofs.Common.{◌∙◌, List, ℕ, ap, subst, sym}
use Rattle.std.specs.Prelude.{IfErr}
use Rattle.ar_index.specs.FileBytes.{held_bytes}
use Rattle.elf_model.specs.Inputs.ArchiveFile.{ArFaultStands}
use Rattle.opening.proofs.archives.archive_in.Goals as goal

pub returns-in-Whole-clause-fault : goal.returns-in-Whole-clause-fault
returns-in-Whole-clause-fault c =
    subst (λ (bs : List ℕ). IfErr c.read.result (ArFaultStands bs)) (c.new.ensures ∙ sym (ap held_bytes c.in-Whole.is)) c.read.ensures.fault

pub returns-in-Parts-clause-fault : goal.returns-in-Parts-clause-fault
returns-in-Parts-clause-fault c =
    subst (λ (bs : List ℕ). IfErr c.read_parts.result (ArFaultStands bs)) (sym (ap held_bytes c.in-Parts.is)) c.read_parts.ensures.fault

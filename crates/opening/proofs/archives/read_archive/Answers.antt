use Rattle.std.proofs.Common.{subst, sym}
use Rattle.opening.specs.Faults.{IsUnsearchable}
use Rattle.opening.specs.Opened.{item_view}
use Rattle.opening.specs.declared.faults.OpenFault.{OpenFault}
use Rattle.opening.proofs.FaultLaws.{archive_fails}
use Rattle.opening.proofs.archives.read_archive.Goals as goal

pub returns-in-Err-clause-fault : goal.returns-in-Err-clause-fault
returns-in-Err-clause-fault c =
    subst (λ (e : OpenFault). IsUnsearchable e (item_view c.args.item.now)) (sym c.archive_fault.ensures)
    (archive_fails (item_view c.args.item.now) c.in-Err.fault c.requires c.in-Err.ensures.fault)

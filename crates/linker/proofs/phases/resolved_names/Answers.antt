use Rattle.std.proofs.Common.{subst, sym}
use Rattle.linker.specs.Outputs.{LinksRefuse}
use Rattle.linker.proofs.Links.{resolving_refuses}
use Rattle.linker.proofs.phases.resolved_names.Goals as goal

pub returns-in-Err-resolve_in-clause-fault : goal.returns-in-Err-resolve_in-clause-fault
returns-in-Err-resolve_in-clause-fault g c =
    let p = c.args.loaded.now.plan in
    let objects = c.args.loaded.now.objects in
    subst (LinksRefuse p objects) (sym c.resolve_error.ensures)
    (resolving_refuses p objects c.in-Err-resolve_in.fault c.in-Err-resolve_in.ensures.fault)

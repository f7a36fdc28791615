use Rattle.resolve.proofs.resolved.resolve_in.Goals as goal

pub returns-clause-resolved : goal.returns-clause-resolved
returns-clause-resolved g c = let d = c.in_ok-defined.ensures.defined in (d.commons, d.sound, d.unique)

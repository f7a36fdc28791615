use Rattle.explain_check.proofs.explain.read_link.Goals as goal

pub returns-clause-read : goal.returns-clause-read
returns-clause-read c =
    let plan_is = rw c.in-Some.is at c.in_ok-plan.ensures.plan in
    let spells = rw c.in-Some-2.is at c.in_ok-map.ensures.map in
    record { plan = plan_is; map = spells.0; spelled = spells.1 }

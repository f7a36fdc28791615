use Rattle.run_judge.proofs.pairs.replace.Goals as goal

pub returns-clause-known : goal.returns-clause-known
returns-clause-known c = λ t. c.in_ok-insert.ensures.updates.0 t

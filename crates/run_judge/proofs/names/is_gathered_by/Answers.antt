use Rattle.check_link.proofs.Gathering.{with_dot, without_dot}
use Rattle.run_judge.proofs.names.is_gathered_by.Goals as goal

pub returns-then-rest-eq46 : goal.returns-then-rest-eq46
returns-then-rest-eq46 c =
    with_dot c.args.name.now c.args.gathering.now c.split_at.result.0.now c.split_at.result.1.now c.if-name-gathering.false
    c.split_at.ensures.front c.split_at.ensures.back c.eq-then-rest-eq46.result c.eq-then-rest-eq46.ensures c.if-rest-eq46.true

pub returns-else-rest-eq46 : goal.returns-else-rest-eq46
returns-else-rest-eq46 c =
    without_dot c.args.name.now c.args.gathering.now c.split_at.result.0.now c.split_at.result.1.now c.if-name-gathering.false
    c.split_at.ensures.front c.split_at.ensures.back c.if-rest-eq46.false

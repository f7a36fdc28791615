use Rattle.run_judge.proofs.GapLaws.{gap_added}
use Rattle.run_judge.proofs.gaps.add_gap.Goals as goal

pub returns-in_ok-push : goal.returns-in_ok-push
returns-in_ok-push c = λ a.
    gap_added c.args.things.now.items c.push.new.self.items c.gap_thing.result c.in-Some.gap c.args.pair.now a c.in_ok-push.ensures.items
    (c.gap_thing.ensures a) c.in-Some.ensures.1

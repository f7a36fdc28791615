use Rattle.memory_judge.proofs.BesideFields.{held_between}
use Rattle.memory_judge.proofs.rests.holds_rest.Goals as goal

pub returns-in-Some : goal.returns-in-Some
returns-in-Some c =
    held_between c.args.image.now c.args.at c.args.size c.args.bytes.now c.args.spans.now c.in-Some.held.bytes.now c.in-Some.held.zeros
    c.are_equal_beside.result c.in-Some.ensures.run c.are_equal_beside.ensures

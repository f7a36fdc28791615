use Rattle.std.proofs.Common.{arith}
use Rattle.check_link.proofs.RunParts.{text_same}
use Rattle.check_link.proofs.same_runs.same_text.Goals as goal

pub returns-then-a-b : goal.returns-then-a-b
returns-then-a-b c = text_same c.args.a.now c.args.b.now c.same_inside.result (omega (arith, c.if-a-b.true)) c.same_inside.ensures

use Rattle.std.proofs.Common.{arith}
use Rattle.byteview.proofs.Vectors.{agree_by_mask}
use Rattle.check_link.proofs.same_runs.agree.Goals as goal

pub returns : goal.returns
returns c = agree_by_mask c.args.a c.args.b 32 c.fits-a.0 c.fits-b.0 (omega arith)

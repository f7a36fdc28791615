use Rattle.std.proofs.Common.{None, arith}
use Rattle.std.specs.Prelude.{All}
use Rattle.name_judge.proofs.ClearSteps.{noted_all, noted_more, noted_none}
use Rattle.name_judge.specs.Clear.{IsBeside, IsUpTo}
use Rattle.name_judge.proofs.gaps.next_in.Goals as goal

pub loop-t-init : goal.loop-t-init
loop-t-init c = λ to. noted_none (IsBeside c.args.from to) c.args.things.now (IsUpTo to None) tt

pub loop-t-preserved : goal.loop-t-preserved
loop-t-preserved c = λ to.
    let P = IsBeside c.args.from to in
    noted_more P c.args.things.now (IsUpTo to c.loop-t.next) (IsUpTo to c.lesser-next.result) (All P c.args.things.now) c.loop-t.t-index _
    c.loop-t-test.true (
      λ h. let both = (c.lesser-next.ensures to).0 h in (both.0, (c.next_of.ensures to).0 both.1),
      λ h. (c.lesser-next.ensures to).1 (h.0, (c.next_of.ensures to).1 h.1),
    )
    (c.loop-t.invariant to)

pub returns : goal.returns
returns c = record {
  told = λ to.
      noted_all (IsBeside c.args.from to) c.args.things.now (IsUpTo to c.loop-t.next) (All (IsBeside c.args.from to) c.args.things.now)
      c.loop-t.t-index (omega (arith, c.loop-t-test.false)) (c.loop-t.invariant to);
}

use Rattle.std.proofs.Common.{None, arith}
use Rattle.std.specs.Prelude.{All}
use Rattle.name_judge.proofs.ClearSteps.{noted_all, noted_more, noted_none}
use Rattle.name_judge.specs.Clear.{IsBeside, IsFrom}
use Rattle.name_judge.proofs.gaps.last_in.Goals as goal

pub loop-t-init : goal.loop-t-init
loop-t-init c = λ from. noted_none (IsBeside from c.args.to) c.args.things.now (IsFrom from None) tt

pub loop-t-preserved : goal.loop-t-preserved
loop-t-preserved c = λ from.
    let P = IsBeside from c.args.to in
    noted_more P c.args.things.now (IsFrom from c.loop-t.last) (IsFrom from c.greater-last.result) (All P c.args.things.now) c.loop-t.t-index _
    c.loop-t-test.true (
      λ h. let both = (c.greater-last.ensures from).0 h in (both.0, (c.last_of.ensures from).0 both.1),
      λ h. (c.greater-last.ensures from).1 (h.0, (c.last_of.ensures from).1 h.1),
    )
    (c.loop-t.invariant from)

pub returns : goal.returns
returns c = record {
  told = λ from.
      noted_all (IsBeside from c.args.to) c.args.things.now (IsFrom from c.loop-t.last) (All (IsBeside from c.args.to) c.args.things.now)
      c.loop-t.t-index (omega (arith, c.loop-t-test.false)) (c.loop-t.invariant from);
}

use Rattle.std.proofs.Common.{arith, refl}
use Rattle.std.specs.Prelude.{All}
use Rattle.elf_model.proofs.Rests.{all_end, all_more}
use Rattle.place_judge.specs.Places.{IsStartIn}
use Rattle.place_judge.proofs.starts.do_all_start.Goals as goal

pub loop-start-preserved : goal.loop-start-preserved
loop-start-preserved c =
    all_more (All (IsStartIn c.args.spans.now) c.args.starts.now) (IsStartIn c.args.spans.now) c.args.starts.now c.loop-start.start-index _
    c.loop-start-test.true (c.starts_right.ensures.0 c.if-not-starts_right.false) c.loop-start.invariant

pub returns : goal.returns
returns c = (
  λ t.
      all_end (All (IsStartIn c.args.spans.now) c.args.starts.now) (IsStartIn c.args.spans.now) c.args.starts.now c.loop-start.start-index
      (omega (arith, c.loop-start-test.false)) c.loop-start.invariant,
  λ all. refl,
)

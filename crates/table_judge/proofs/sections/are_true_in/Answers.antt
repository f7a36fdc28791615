use Rattle.std.proofs.Common.{arith, refl}
use Rattle.std.specs.Prelude.{All}
use Rattle.elf_model.proofs.Rests.{all_end, all_more}
use Rattle.table_judge.specs.Sections.{IsTrueIn}
use Rattle.table_judge.proofs.sections.are_true_in.Goals as goal

pub loop-h-preserved : goal.loop-h-preserved
loop-h-preserved c =
    all_more (All (IsTrueIn c.args.file.now) c.args.headers.now) (IsTrueIn c.args.file.now) c.args.headers.now c.loop-h.h-index _
    c.loop-h-test.true (c.is_true_in.ensures.0 c.if-not-is_true_in.false) c.loop-h.invariant

pub returns : goal.returns
returns c = (
  λ t.
      all_end (All (IsTrueIn c.args.file.now) c.args.headers.now) (IsTrueIn c.args.file.now) c.args.headers.now c.loop-h.h-index
      (omega (arith, c.loop-h-test.false)) c.loop-h.invariant,
  λ all. refl,
)

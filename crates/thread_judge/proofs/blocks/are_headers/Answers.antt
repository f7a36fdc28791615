use Rattle.std.proofs.Common.{arith, refl}
use Rattle.std.specs.Prelude.{All}
use Rattle.elf_model.proofs.Rests.{all_end, all_more}
use Rattle.check_link.specs.Views.{placed_views}
use Rattle.judge_model.specs.ThreadBlocks.{IsThreadHeader}
use Rattle.thread_judge.proofs.blocks.are_headers.Goals as goal

pub loop-h-preserved : goal.loop-h-preserved
loop-h-preserved c =
    all_more (All (IsThreadHeader c.args.image.now (placed_views c.args.placed.now)) c.args.hs.now) (IsThreadHeader c.args.image.now (placed_views c.args.placed.now))
    c.args.hs.now c.loop-h.h-index _ c.loop-h-test.true (c.is_thread_header.ensures.0 c.if-not-is_thread_header.false) c.loop-h.invariant

pub returns : goal.returns
returns c = (
  λ t.
      all_end (All (IsThreadHeader c.args.image.now (placed_views c.args.placed.now)) c.args.hs.now)
      (IsThreadHeader c.args.image.now (placed_views c.args.placed.now)) c.args.hs.now c.loop-h.h-index (omega (arith, c.loop-h-test.false))
      c.loop-h.invariant,
  λ all. refl,
)

use Rattle.std.proofs.Common.{arith, refl}
use Rattle.elf_model.specs.Link.Pieces.{is_thread_piece}
use Rattle.elf_model.proofs.Places.{some_alignment}
use Rattle.placing.specs.Views.{piece_views}
use Rattle.layout.proofs.ThreadSteps.{align_more, any_more}
use Rattle.layout.proofs.threads.threads_of.Goals as goal

pub loop-piece-preserved : goal.loop-piece-preserved
loop-piece-preserved c = record {
  some = let a = c.loop-piece.invariant.some in let b = c.wider-align.ensures.above in omega (arith, a, b);
  is =
      align_more c.args.pieces.now c.loop-piece.piece-index _ c.loop-piece.align c.wider-align.result _ c.loop-piece-test.true c.wider-align.ensures.value
      c.loop-piece.invariant.is;
  among =
      any_more c.args.pieces.now c.loop-piece.piece-index _ c.loop-piece.any c.any_with-any.result _ c.loop-piece-test.true c.any_with-any.ensures
      c.loop-piece.invariant.among;
}

pub loop-piece-init : goal.loop-piece-init
loop-piece-init c =
    let some = some_alignment is_thread_piece (piece_views c.args.pieces.now) in
    record {
      some = omega arith;
      is = omega (arith, some);
      among = refl;
    }

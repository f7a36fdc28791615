use Rattle.std.proofs.Common.{Option, ap}
use Rattle.std.specs.Prelude.{option_map}
use Rattle.check_link.specs.Outputs.{seen_all, seen_view}
use Rattle.check_link.specs.Views.{piece_views}
use Rattle.check_link.specs.declared.output_names.Output.{Output}
use Rattle.check_link.proofs.SeenOutputs.{seen_step}
use Rattle.check_link.proofs.output_names.table_of.Goals as goal

pub loop-piece-init : goal.loop-piece-init
loop-piece-init c = record {
  kept = c.new-table.ensures.kept;
  seen = λ n. ap (λ (o : Option Output). seen_all n (piece_views c.args.pieces.now) (option_map seen_view o)) (c.new-table.ensures.empty n);
}

pub loop-piece-preserved : goal.loop-piece-preserved
loop-piece-preserved c = record {
  kept = c.in_ok-add_piece.ensures.kept;
  seen = λ n.
      seen_step n c.args.pieces.now c.loop-piece.piece-index _ _ _ _ c.loop-piece-test.true (c.in_ok-add_piece.ensures.seen n) (c.loop-piece.invariant.seen n);
}

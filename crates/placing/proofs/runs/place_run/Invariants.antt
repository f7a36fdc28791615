use Rattle.std.proofs.Common.{◌≡◌, ◌≤◌, ◌^◌, ◌++◌, drop, max}
use Rattle.elf_model.specs.Own.OwnLayout.{end_of, placed_from}
use Rattle.placing.specs.Limits.{AreInLimit}
use Rattle.placing.specs.PlaceViews.{place_views}
use Rattle.placing.specs.Views.{borrowed_views}
use Rattle.elf_model.proofs.Rests.{Left}
use Rattle.placing.proofs.runs.place_run.Given as goal

abbrev pub invariant-loop-piece : goal.invariant-loop-piece
invariant-loop-piece l = record {
  above : l.fn.from ≤ l.next;
  low : l.next ≤ max l.fn.from (2 ^ 46);
  done :
      place_views l.out.items ++ placed_from l.next (borrowed_views (drop l.piece-index l.pieces))
      ≡ place_views l.initial.out.items ++ placed_from l.fn.from (borrowed_views l.pieces);
  end : end_of l.next (borrowed_views (drop l.piece-index l.pieces)) ≡ end_of l.fn.from (borrowed_views l.pieces);
  limit : Left (AreInLimit (placed_from l.fn.from (borrowed_views l.pieces))) (AreInLimit (placed_from l.next (borrowed_views (drop l.piece-index l.pieces))));
}

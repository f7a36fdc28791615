use Rattle.std.proofs.Common.{◌≡◌, ◌≤◌, ◌++◌, drop, length}
use Rattle.std.specs.Prelude.{All}
use Rattle.placing.specs.PlaceViews.{place_views}
use Rattle.placing.specs.Views.{piece_views}
use Rattle.debug_image.specs.DebugSections.{EndsLow, IsLow, joined_all, most_names, places_from}
use Rattle.debug_image.specs.DebugViews.{joined_views}
use Rattle.debug_image.proofs.joined.add_all.Given as goal

abbrev pub invariant-loop-piece : goal.invariant-loop-piece
invariant-loop-piece l = record {
  places :
      place_views l.places.items ++ places_from (joined_views l.joined.items) (piece_views (drop l.piece-index l.pieces))
      ≡ places_from (joined_views l.fn.joined.items) (piece_views l.pieces);
  ends : All EndsLow (place_views l.places.items);
  joined :
      joined_all (joined_views l.joined.items) (piece_views (drop l.piece-index l.pieces))
      ≡ joined_all (joined_views l.fn.joined.items) (piece_views l.pieces);
  low : All IsLow (joined_views l.joined.items);
  few : length l.joined.items ≤ most_names;
}

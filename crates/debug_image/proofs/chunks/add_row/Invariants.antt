use Rattle.std.proofs.Common.{◌≡◌, ◌++◌, drop}
use Rattle.placing.specs.PlaceViews.{place_views}
use Rattle.debug_image.specs.DebugSections.{row_chunks, row_end}
use Rattle.debug_image.specs.DebugViews.{chunk_views}
use Rattle.debug_image.proofs.chunks.add_row.Given as goal

abbrev pub invariant-loop-place : goal.invariant-loop-place
invariant-loop-place l = record {
  chunks :
      chunk_views l.chunks.items ++ row_chunks l.title l.start l.end (place_views (drop l.place-index l.row))
      ≡ chunk_views l.fn.chunks.items ++ row_chunks l.title l.start l.at (place_views l.row);
  end : row_end l.title l.start l.end (place_views (drop l.place-index l.row)) ≡ row_end l.title l.start l.at (place_views l.row);
}

use Rattle.std.proofs.Common.{◌≡◌, ◌++◌, drop}
use Rattle.debug_image.specs.DebugSections.{named_chunks}
use Rattle.debug_image.specs.DebugViews.{chunk_views, row_views}
use Rattle.debug_image.proofs.chunks.add_named.Given as goal

abbrev pub invariant-loop-row : goal.invariant-loop-row
invariant-loop-row l =
    chunk_views l.chunks.items ++ named_chunks l.title l.start l.end (row_views (drop l.row-index l.rows))
    ≡ chunk_views l.fn.chunks.items ++ named_chunks l.title l.start l.at (row_views l.rows)

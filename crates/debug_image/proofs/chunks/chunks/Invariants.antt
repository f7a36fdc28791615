use Rattle.std.proofs.Common.{◌≡◌, ◌++◌, ◌+◌, ◌*◌, ◌^◌, ◌≤◌, drop}
use Rattle.debug_image.specs.DebugSections.{chunks_of}
use Rattle.debug_image.specs.DebugViews.{chunk_views, joined_views, row_views}
use Rattle.debug_image.proofs.chunks.chunks.Given as goal

abbrev pub invariant-loop-one : goal.invariant-loop-one
invariant-loop-one l = record {
  chunks :
      chunk_views l.chunks.items ++ chunks_of (row_views l.rows) l.at (joined_views (drop l.one-index l.joined))
      ≡ chunks_of (row_views l.rows) l.end (joined_views l.joined);
  low : l.at ≤ 2 ^ 46 + 2 ^ 41 * l.one-index;
}

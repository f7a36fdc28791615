use Rattle.std.proofs.Common.{◌≡◌, ◌++◌, drop}
use Rattle.debug_image.specs.DebugLayouts.{data_in}
use Rattle.debug_image.specs.DebugValues.{all_bytes}
use Rattle.debug_image.specs.DebugViews.{chunk_views}
use Rattle.debug_image.proofs.debug_file.add_chunks.Given as goal

abbrev pub invariant-loop-chunk : goal.invariant-loop-chunk
invariant-loop-chunk l =
    l.file.items ++ all_bytes (data_in l.layout) (chunk_views (drop l.chunk-index l.chunks))
    ≡ l.fn.file.items ++ all_bytes (data_in l.layout) (chunk_views l.chunks)

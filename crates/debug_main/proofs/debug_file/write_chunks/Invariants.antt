use Rattle.std.proofs.Common.{◌≡◌, ◌++◌, drop}
use Rattle.debug_image.specs.DebugLayouts.{data_in}
use Rattle.debug_image.specs.DebugViews.{chunk_views}
use Rattle.debug_main.specs.DebugFiles.{left_of}
use Rattle.debug_main.specs.Written.{Written}
use Rattle.debug_main.proofs.debug_file.write_chunks.Given as goal

abbrev pub invariant-loop-chunk : goal.invariant-loop-chunk
invariant-loop-chunk g l =
    Written (data_in l.layout) l.chunks l.chunk-index (g.S.Sink.told l.initial.sink) (g.S.Sink.told l.sink) × (g.S.Sink.failed l.sink ≡ 0)
    × (l.left.items ++ left_of (data_in l.layout) (chunk_views (drop l.chunk-index l.chunks)) ≡ l.initial.left.items ++ left_of (data_in l.layout) (chunk_views l.chunks))

use Rattle.std.proofs.Common.{◌≡◌, ◌≤◌, ◌-◌, replicate}
use Rattle.image_write.specs.Streams.{Took}
use Rattle.file_io.proofs.file_sink.put_zeros.Given as goal

abbrev pub invariant-loop-left : goal.invariant-loop-left
invariant-loop-left g l = record {
  within : l.left ≤ l.count;
  took : Took (g.S.Sink.told l.fn.sink) (replicate (l.count - l.left) 0) (g.S.Sink.told l.sink);
  whole : g.S.Sink.failed l.sink ≡ 0;
}

abbrev pub decreases-loop-left : goal.decreases-loop-left
decreases-loop-left g l = l.left

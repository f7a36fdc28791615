use Rattle.std.proofs.Common.{◌≡◌, ◌-◌, ◌≤◌, replicate}
use Rattle.image_write.specs.Streams.{Grows, stream}
use Rattle.image_write.proofs.stream.put_run.Given as goal

abbrev pub invariant-loop-left : goal.invariant-loop-left
invariant-loop-left g l = record {
  grows : Grows
      (stream (g.S.Sink.told l.fn.sink) l.fn.buffer (g.S.Sink.failed l.fn.sink))
      (replicate (l.count - l.left) l.byte)
      (stream (g.S.Sink.told l.sink) l.buffer (g.S.Sink.failed l.sink));
  within : l.left ≤ l.count;
  failed : g.S.Sink.failed l.sink ≡ 0;
}

abbrev pub decreases-loop-left : goal.decreases-loop-left
decreases-loop-left g l = l.left

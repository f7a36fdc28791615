use Rattle.std.proofs.Common.{◌≡◌, drop}
use Rattle.std.specs.List.{flat_map}
use Rattle.byteview.specs.Numbers.{le_bytes}
use Rattle.image_write.specs.Streams.{stream}
use Rattle.image_write.proofs.StreamSteps.{Towards}
use Rattle.image_write.proofs.got.put_values.Given as goal

abbrev pub invariant-loop-value : goal.invariant-loop-value
invariant-loop-value g l = record {
  towards : Towards
      (stream (g.S.Sink.told l.fn.sink) l.fn.buffer (g.S.Sink.failed l.fn.sink))
      (flat_map (le_bytes 8) l.values)
      (flat_map (le_bytes 8) (drop l.value-index l.values))
      (stream (g.S.Sink.told l.sink) l.buffer (g.S.Sink.failed l.sink));
  failed : g.S.Sink.failed l.sink ≡ 0;
}

use Rattle.std.proofs.Common.{◌≡◌, drop}
use Rattle.std.specs.List.{flat_map}
use Rattle.elf_model.specs.Inputs.Records.{program_header_bytes}
use Rattle.image_write.specs.Streams.{stream}
use Rattle.image_write.proofs.StreamSteps.{Towards}
use Rattle.image_write.proofs.headers.put_segments.Given as goal

abbrev pub invariant-loop-segment : goal.invariant-loop-segment
invariant-loop-segment g l = record {
  towards : Towards
      (stream (g.S.Sink.told l.fn.sink) l.fn.buffer (g.S.Sink.failed l.fn.sink))
      (flat_map program_header_bytes l.segments)
      (flat_map program_header_bytes (drop l.segment-index l.segments))
      (stream (g.S.Sink.told l.sink) l.buffer (g.S.Sink.failed l.sink));
  failed : g.S.Sink.failed l.sink ≡ 0;
}

use Rattle.std.proofs.Common.{◌≡◌, drop}
use Rattle.std.specs.List.{flat_map}
use Rattle.elf_model.specs.Inputs.Records.{section_header_bytes}
use Rattle.image_write.specs.Streams.{stream}
use Rattle.image_write.proofs.StreamSteps.{Towards}
use Rattle.image_write.proofs.tables.put_headers.Given as goal

abbrev pub invariant-loop-header : goal.invariant-loop-header
invariant-loop-header g l = record {
  towards : Towards
      (stream (g.S.Sink.told l.fn.sink) l.fn.buffer (g.S.Sink.failed l.fn.sink))
      (flat_map section_header_bytes l.headers)
      (flat_map section_header_bytes (drop l.header-index l.headers))
      (stream (g.S.Sink.told l.sink) l.buffer (g.S.Sink.failed l.sink));
  failed : g.S.Sink.failed l.sink ≡ 0;
}

use Rattle.std.proofs.Common.{◌≡◌, ◌+◌, ◌<◌, ◌^◌, drop, length}
use Rattle.resolve.specs.Views.{meaning_views}
use Rattle.image_write.specs.Streams.{stream}
use Rattle.image_write.specs.Tables.{entry_bytes, listed_of, name_bytes, objects_of, where_of}
use Rattle.image_write.proofs.StreamSteps.{Towards}
use Rattle.image_write.proofs.tables.put_entries.Given as goal

abbrev pub invariant-loop-definition : goal.invariant-loop-definition
invariant-loop-definition g l = record {
  towards : Towards
      (stream (g.S.Sink.told l.fn.sink) l.fn.buffer (g.S.Sink.failed l.fn.sink))
      (entry_bytes (where_of l.names) (objects_of l.names) 1 (listed_of l.names))
      (entry_bytes (where_of l.names) (objects_of l.names) l.at (meaning_views (drop l.definition-index l.names.listed.now)))
      (stream (g.S.Sink.told l.sink) l.buffer (g.S.Sink.failed l.sink));
  room : l.at + length (name_bytes (objects_of l.names) (meaning_views (drop l.definition-index l.names.listed.now))) < 2 ^ 32;
  failed : g.S.Sink.failed l.sink ≡ 0;
}

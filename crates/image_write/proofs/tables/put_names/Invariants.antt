use Rattle.std.proofs.Common.{◌≡◌, drop}
use Rattle.resolve.specs.Views.{meaning_views}
use Rattle.search.specs.Views.{loaded_views}
use Rattle.image_write.specs.Streams.{stream}
use Rattle.image_write.specs.Tables.{listed_of, name_bytes}
use Rattle.image_write.proofs.StreamSteps.{Towards}
use Rattle.image_write.proofs.tables.put_names.Given as goal

abbrev pub invariant-loop-definition : goal.invariant-loop-definition
invariant-loop-definition g l = record {
  towards : Towards
      (stream (g.S.Sink.told l.fn.sink) l.fn.buffer (g.S.Sink.failed l.fn.sink))
      (name_bytes (loaded_views l.names.objects.now) (listed_of l.names))
      (name_bytes (loaded_views l.names.objects.now) (meaning_views (drop l.definition-index l.names.listed.now)))
      (stream (g.S.Sink.told l.sink) l.buffer (g.S.Sink.failed l.sink));
  failed : g.S.Sink.failed l.sink ≡ 0;
}

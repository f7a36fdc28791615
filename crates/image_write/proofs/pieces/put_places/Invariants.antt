use Rattle.std.proofs.Common.{◌≡◌, drop}
use Rattle.placing.specs.PlaceViews.{place_views}
use Rattle.image_write.specs.Parts.{Rise, all_body}
use Rattle.image_write.specs.Streams.{stream}
use Rattle.image_write.proofs.StreamSteps.{Towards}
use Rattle.image_write.proofs.pieces.put_places.Given as goal

abbrev pub invariant-loop-place : goal.invariant-loop-place
invariant-loop-place g l = record {
  towards : Towards
      (stream (g.S.Sink.told l.fn.sink) l.fn.buffer (g.S.Sink.failed l.fn.sink))
      (all_body l.contents l.code l.to l.fn.from (place_views l.places))
      (all_body l.contents l.code l.to l.next (place_views (drop l.place-index l.places)))
      (stream (g.S.Sink.told l.sink) l.buffer (g.S.Sink.failed l.sink));
  rise : Rise l.next l.to (place_views (drop l.place-index l.places));
  failed : g.S.Sink.failed l.sink ≡ 0;
}

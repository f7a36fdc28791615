use Rattle.std.proofs.Common.{◌≡◌, [], length}
use Rattle.image_write.specs.Streams.{Moves, stream}
use Rattle.image_write.proofs.stream.hand.Given as goal

abbrev pub invariant-loop-rest : goal.invariant-loop-rest
invariant-loop-rest g l = record {
  moves : Moves (stream (g.S.Sink.told l.fn.sink) [] (g.S.Sink.failed l.fn.sink)) l.bytes (g.S.Sink.told l.sink) l.rest;
  failed : g.S.Sink.failed l.sink ≡ 0;
}

abbrev pub decreases-loop-rest : goal.decreases-loop-rest
decreases-loop-rest g l = length l.rest

use Rattle.std.proofs.Common.{◌≡◌, ◌-◌, ◌≤◌, length}
use Rattle.elf_model.specs.Own.OwnLayout.{own_where}
use Rattle.placing.specs.Views.{piece_view}
use Rattle.image_write.specs.Sections.{wanted_run}
use Rattle.image_write.specs.Streams.{stream}
use Rattle.image_write.proofs.StreamSteps.{Towards}
use Rattle.image_write.proofs.pieces.put_section.Given as goal

abbrev pub invariant-loop-from : goal.invariant-loop-from
invariant-loop-from g l = record {
  towards : Towards
      (stream (g.S.Sink.told l.fn.sink) l.fn.buffer (g.S.Sink.failed l.fn.sink))
      (wanted_run l.patches.objects (own_where l.patches.base l.patches.objects) (piece_view l.piece) 0 (length l.piece.bytes.now))
      (wanted_run l.patches.objects (own_where l.patches.base l.patches.objects) (piece_view l.piece) l.from (length l.piece.bytes.now - l.from))
      (stream (g.S.Sink.told l.sink) l.buffer (g.S.Sink.failed l.sink));
  within : l.from ≤ length l.piece.bytes.now;
  failed : g.S.Sink.failed l.sink ≡ 0;
}

abbrev pub decreases-loop-from : goal.decreases-loop-from
decreases-loop-from g l = length l.piece.bytes.now - l.from

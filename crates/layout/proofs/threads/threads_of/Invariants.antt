use Rattle.std.proofs.Common.{◌≡◌, ◌≤◌, ◌||◌, drop, max}
use Rattle.std.specs.List.{list_any}
use Rattle.elf_model.specs.Link.Pieces.{is_thread_piece}
use Rattle.elf_model.specs.Link.ThreadStorage.{alignment_of}
use Rattle.placing.specs.Views.{piece_views}
use Rattle.layout.proofs.threads.threads_of.Given as goal

abbrev pub invariant-loop-piece : goal.invariant-loop-piece
invariant-loop-piece l = record {
  some : 1 ≤ l.align;
  is : max l.align (alignment_of is_thread_piece (piece_views (drop l.piece-index l.pieces))) ≡ alignment_of is_thread_piece (piece_views l.pieces);
  among : (l.any || list_any is_thread_piece (piece_views (drop l.piece-index l.pieces))) ≡ list_any is_thread_piece (piece_views l.pieces);
}

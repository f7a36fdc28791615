use Rattle.check_places.specs.Neighbours.{AreNear, last_known}
use Rattle.check_link.specs.Views.{placed_views}
use Rattle.check_places.proofs.NextPieces.{LastsAre, NearFrom}
use Rattle.elf_model.proofs.Rests.{Left}
use Rattle.check_places.proofs.c05_placed.neighbours.are_near.Given as goal

abbrev pub invariant-loop-j : goal.invariant-loop-j
invariant-loop-j l = record {
  lasts : LastsAre (placed_views l.placed) l.j (last_known l.lasts);
  rest : Left (AreNear (placed_views l.placed)) (NearFrom (placed_views l.placed) l.j);
}

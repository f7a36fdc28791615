use Rattle.std.specs.Prelude.{All}
use Rattle.check_link.specs.Views.{placed_views}
use Rattle.check_places.specs.Far.{AreFar}
use Rattle.check_places.specs.Neighbours.{last_known}
use Rattle.check_places.proofs.NextPieces.{LastsAre}
use Rattle.check_places.proofs.c05_placed.neighbours.far_pairs.Given as goal

abbrev pub invariant-loop-j : goal.invariant-loop-j
invariant-loop-j l = record {
  lasts : LastsAre (placed_views l.placed) l.j (last_known l.lasts);
  far : All (λ p. AreFar (placed_views l.placed) p.0 p.1) l.pairs.items;
}

use Rattle.std.proofs.Common.{drop}
use Rattle.std.specs.Prelude.{All}
use Rattle.elf_model.proofs.Rests.{Left}
use Rattle.checker.specs.ThreadBlock.{IsPlaceClear}
use Rattle.check_link.specs.Views.{placed_view}
use Rattle.checker.proofs.c08_thread_block.are_places_clear_of.Given as goal

abbrev pub invariant-loop-q : goal.invariant-loop-q
invariant-loop-q l =
    Left (All (λ q. IsPlaceClear l.start l.end (placed_view q)) l.placed)
    (All (λ q. IsPlaceClear l.start l.end (placed_view q)) (drop l.q-index l.placed))

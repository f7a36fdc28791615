use Rattle.std.proofs.Common.{drop}
use Rattle.std.specs.Prelude.{All}
use Rattle.check_load.specs.Kept.{piece_at}
use Rattle.check_load.specs.Views.{loaded_view}
use Rattle.elf_model.proofs.Rests.{Left}
use Rattle.keep_judge.specs.Collected.{IsRightIn}
use Rattle.keep_judge.proofs.object_sections.are_right_among.Given as goal

abbrev pub invariant-loop-section : goal.invariant-loop-section
invariant-loop-section l =
    Left (All (λ i. IsRightIn l.drops l.number (loaded_view l.loaded) (piece_at l.number (loaded_view l.loaded) i)) l.sections)
    (All (λ i. IsRightIn l.drops l.number (loaded_view l.loaded) (piece_at l.number (loaded_view l.loaded) i)) (drop l.section-index l.sections))

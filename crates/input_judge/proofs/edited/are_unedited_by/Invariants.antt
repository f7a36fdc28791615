use Rattle.std.proofs.Common.{◌≡◌, drop, false}
use Rattle.std.specs.Prelude.{All}
use Rattle.check_link.specs.Views.{piece_views}
use Rattle.elf_model.proofs.Rests.{Left}
use Rattle.elf_model.specs.Link.Pieces.{Piece}
use Rattle.input_judge.specs.Edited.{is_edited_by}
use Rattle.input_judge.specs.SectionSets.{has_section}
use Rattle.input_judge.proofs.edited.are_unedited_by.Given as goal

abbrev pub invariant-loop-piece : goal.invariant-loop-piece
invariant-loop-piece l =
    Left (All (λ (p : Piece). is_edited_by (has_section l.placed) (has_section l.relocated) p ≡ false) (piece_views l.pieces))
    (All (λ (p : Piece). is_edited_by (has_section l.placed) (has_section l.relocated) p ≡ false) (piece_views (drop l.piece-index l.pieces)))

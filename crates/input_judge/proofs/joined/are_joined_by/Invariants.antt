use Rattle.std.proofs.Common.{drop}
use Rattle.std.specs.Prelude.{All}
use Rattle.check_link.specs.Views.{piece_views}
use Rattle.elf_model.proofs.Rests.{Left}
use Rattle.input_judge.specs.Joined.{IsJoinedBy}
use Rattle.input_judge.specs.SectionSets.{has_section}
use Rattle.input_judge.proofs.joined.are_joined_by.Given as goal

abbrev pub invariant-loop-piece : goal.invariant-loop-piece
invariant-loop-piece l =
    Left (All (IsJoinedBy (has_section l.placed)) (piece_views l.pieces))
    (All (IsJoinedBy (has_section l.placed)) (piece_views (drop l.piece-index l.pieces)))

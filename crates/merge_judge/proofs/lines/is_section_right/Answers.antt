use Rattle.std.proofs.Common.{ap, sym, ◌∙◌}
use Rattle.std.specs.Prelude.{option_map}
use Rattle.check_link.specs.Views.{piece_view}
use Rattle.merge_judge.proofs.LineLaws.{found_sized}
use Rattle.merge_judge.proofs.lines.is_section_right.Goals as goal

pub is_piece_right-requires-clause-sized : goal.is_piece_right-requires-clause-sized
is_piece_right-requires-clause-sized c =
    found_sized c.args.sections.now c.args.m.now (piece_view c.in-Some.piece.now) c.requires.sized
    (sym c.find.ensures ∙ ap (option_map (λ p. piece_view p.now)) c.in-Some.is)

use Rattle.std.proofs.Common.{◌≡◌, drop, map}
use Rattle.elf_model.specs.Image.MapRecord.{place_row}
use Rattle.elf_model.specs.Image.RightLink.{facts_of_piece, facts_of_row}
use Rattle.elf_model.proofs.Rests.{Left}
use Rattle.check_link.specs.Views.{piece_views}
use Rattle.place_judge.proofs.lines.are_lines_of.Given as goal

abbrev pub invariant-loop-k : goal.invariant-loop-k
invariant-loop-k l =
    Left (map facts_of_row (map place_row l.lines) ≡ map facts_of_piece (piece_views l.pieces))
    (map facts_of_row (map place_row (drop l.k l.lines)) ≡ map facts_of_piece (piece_views (drop l.k l.pieces)))

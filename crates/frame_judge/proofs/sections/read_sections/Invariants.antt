use Rattle.std.proofs.Common.{◌≡◌, ◌++◌, drop}
use Rattle.std.specs.Prelude.{All}
use Rattle.check_link.specs.Views.{piece_views}
use Rattle.elf_model.proofs.Rests.{Left}
use Rattle.judge_model.specs.Frames.{IsReadable}
use Rattle.frame_judge.specs.Sections.{piece_bytes}
use Rattle.frame_judge.proofs.sections.read_sections.Given as goal

abbrev pub invariant-loop-piece : goal.invariant-loop-piece
invariant-loop-piece l =
    Left (All IsReadable (piece_views l.pieces)) (All IsReadable (piece_views (drop l.piece-index l.pieces)))
    × (l.all.items ++ piece_bytes (piece_views (drop l.piece-index l.pieces)) ≡ piece_bytes (piece_views l.pieces))

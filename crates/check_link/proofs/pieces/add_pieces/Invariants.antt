use Rattle.std.proofs.Common.{◌≡◌, ◌++◌, drop, map}
use Rattle.elf_model.specs.Inputs.ObjectFile.{sections}
use Rattle.elf_model.specs.Link.Pieces.{pieces_from}
use Rattle.check_load.specs.Kept.{piece_at}
use Rattle.check_load.specs.Views.{loaded_view}
use Rattle.check_link.specs.Views.{piece_views}
use Rattle.check_link.proofs.pieces.add_pieces.Given as goal

abbrev pub invariant-loop-section : goal.invariant-loop-section
invariant-loop-section l =
    piece_views l.out.items ++ map (piece_at l.number (loaded_view l.loaded)) (drop l.section-index l.sections)
    ≡ piece_views l.fn.out.items ++ pieces_from l.number (loaded_view l.loaded) 0 (sections l.loaded.object)

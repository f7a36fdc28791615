use Rattle.std.proofs.Common.{◌≡◌, ◌++◌, drop}
use Rattle.elf_model.specs.Inputs.ObjectFile.{sections}
use Rattle.elf_model.specs.Link.Pieces.{pieces_from}
use Rattle.search.specs.KeptLists.{pieces_at}
use Rattle.search.specs.Views.{loaded_view}
use Rattle.placing.specs.Views.{piece_views}
use Rattle.layout.proofs.pieces.add_pieces.Given as goal

abbrev pub invariant-loop-section : goal.invariant-loop-section
invariant-loop-section l =
    piece_views l.out.items ++ pieces_at l.number (loaded_view l.loaded) (drop l.section-index l.sections)
    ≡ piece_views l.fn.out.items ++ pieces_from l.number (loaded_view l.loaded) 0 (sections l.loaded.object)

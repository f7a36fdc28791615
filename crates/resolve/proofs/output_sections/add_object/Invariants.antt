use Rattle.std.proofs.Common.{◌++◌, List, drop}
use Rattle.elf_model.specs.Inputs.ObjectFile.{sections}
use Rattle.elf_model.specs.Link.Pieces.{Piece, pieces_from}
use Rattle.search.specs.KeptLists.{pieces_at}
use Rattle.search.specs.Views.{loaded_view}
use Rattle.resolve.specs.OutputSections.{AreOutputsOf}
use Rattle.resolve.proofs.SectionWalks.{Walks}
use Rattle.resolve.proofs.output_sections.add_object.Given as goal

abbrev pub invariant-loop-section : goal.invariant-loop-section
invariant-loop-section l =
    (done : List Piece) → AreOutputsOf done l.fn.index.keys l.fn.numbers.items →
    Walks (λ ps. AreOutputsOf ps l.index.keys l.numbers.items) (pieces_at l.number (loaded_view l.loaded) (drop l.section-index l.sections))
    (done ++ pieces_from l.number (loaded_view l.loaded) 0 (sections l.loaded.object))

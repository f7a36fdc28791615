use Rattle.std.proofs.Common.{drop}
use Rattle.elf_model.specs.Link.Pieces.{kept_sections, pieces_of}
use Rattle.search.specs.Views.{loaded_views}
use Rattle.resolve.specs.OutputSections.{AreOutputsOf}
use Rattle.resolve.proofs.SectionWalks.{Walks}
use Rattle.resolve.proofs.output_sections.output_sections_of.Given as goal

abbrev pub invariant-loop-k : goal.invariant-loop-k
invariant-loop-k l =
    Walks (λ ps. AreOutputsOf ps l.index.keys l.numbers.items) (pieces_of l.k (loaded_views (drop l.k l.objects))) (kept_sections (loaded_views l.objects))

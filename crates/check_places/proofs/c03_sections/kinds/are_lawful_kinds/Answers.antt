use Rattle.std.proofs.lemmas.List.Elements.{All-map}
use Rattle.elf_model.specs.Link.Pieces as pieces
use Rattle.elf_model.specs.Link.Pieces.{IsLawfulKind}
use Rattle.check_link.specs.Views.{piece_view}
use Rattle.elf_model.proofs.Listed.{All-unmap}
use Rattle.check_places.proofs.c03_sections.kinds.are_lawful_kinds.Goals as goal

pub returns : goal.returns
returns c = (
  λ e. All-map (λ (p : pieces.Piece). IsLawfulKind p.header) piece_view c.args.pieces.now (c.all_lawful.ensures.0 e),
  λ h. c.all_lawful.ensures.1 (All-unmap (λ (p : pieces.Piece). IsLawfulKind p.header) piece_view c.args.pieces.now h),
)

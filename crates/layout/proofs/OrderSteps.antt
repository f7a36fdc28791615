-- The lists of an order are those of the own layout.
use Rattle.std.proofs.Common.{◌≡◌, ◌∙◌, ◌++◌, List, ap, subst}
use Rattle.std.specs.Prelude.{filter}
use Rattle.std.specs.Borrow.{Bor}
use Rattle.std.specs.Global.{Vec}
use Rattle.elf_model.specs.Link.Loading.{LoadedObject}
use Rattle.elf_model.specs.Own.OwnLayout.{got_pieces, grouped, is_data, is_zero}
use Rattle.elf_model.specs.Link.Pieces as pieces
use Rattle.elf_model.specs.Link.Pieces.{kept_sections}
use Rattle.layout.specs.Groups.{AreGathered, part_test, parts}
use Rattle.layout.specs.Orders.{data_in, plain_pieces}
use Rattle.layout.specs.PieceLists.{ArePieces, if_sized}
use Rattle.placing.specs.Views.{piece_view, piece_views}
use Rattle.layout.specs.declared.output_sections.Part.{Part}
use Rattle.layout.specs.declared.output_sections.Part.TheVariants as part
use Rattle.placing.specs.declared.piece.Piece.{Piece}
use Rattle.layout.specs.declared.pieces.Pieces.{Pieces}
use Rattle.layout.proofs.PartSteps.{parts_grouped}

-- groups of pieces that were seen, as a slice of which they are
module _ (objects : List LoadedObject) (ps : Pieces) (all : ArePieces objects ps) (groups : List (Vec (Bor Piece))) (seen : List Piece) (of_kept : seen ≡ ps.kept.items) (are : AreGathered groups (piece_views seen)) where
  gathered : AreGathered groups (kept_sections objects)
  gathered = subst (AreGathered groups) (ap piece_views of_kept ∙ all.kept) are

  pub part_is : (p : Part) (gs : List (Vec (Bor Piece))) → gs ≡ groups → parts p gs ≡ grouped (filter (part_test p) (kept_sections objects))
  part_is p gs same = ap (parts p) same ∙ parts_grouped p (kept_sections objects) groups gathered

  pub data_is : (gs : List (Vec (Bor Piece))) → gs ≡ groups → data_in gs ps ≡ plain_pieces objects
  data_is gs same =
      ap (λ (qs : List pieces.Piece). qs ++ (if_sized (piece_view ps.got) ++ (parts part.Zero gs ++ piece_views ps.blocks.items))) (part_is part.Data gs same)
      ∙ ap (λ (qs : List pieces.Piece). grouped (filter is_data (kept_sections objects)) ++ (qs ++ (parts part.Zero gs ++ piece_views ps.blocks.items))) all.got
      ∙ ap (λ (qs : List pieces.Piece). grouped (filter is_data (kept_sections objects)) ++ (got_pieces objects ++ (qs ++ piece_views ps.blocks.items))) (part_is part.Zero gs same)
      ∙ ap
      (λ (qs : List pieces.Piece).
      grouped (filter is_data (kept_sections objects)) ++ (got_pieces objects ++ (grouped (filter is_zero (kept_sections objects)) ++ qs)))
      all.blocks_are

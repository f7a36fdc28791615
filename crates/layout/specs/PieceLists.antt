-- All pieces of objects, as they are listed.
use Rattle.std.specs.Prelude.{◌≡◌, ℕ, List, [], ◌∷◌, cond, map, nat_lt}
use Rattle.elf_model.specs.Link.Commons.{block_piece, blocks}
use Rattle.elf_model.specs.Link.Loading.{LoadedObject}
use Rattle.elf_model.specs.Own.OwnLayout.{got_header, got_pieces}
use Rattle.elf_model.specs.Link.Pieces.{Piece, kept_sections}
use Rattle.placing.specs.Views.{piece_view, piece_views}
use Rattle.layout.specs.declared.pieces.Pieces.{Pieces}

-- the GOT as a piece, with its number and its size
abbrev pub got_as : ℕ → ℕ → Piece
got_as number size = record {
  object = number;
  section = 0;
  name = [];
  header = got_header size;
  size = size;
  align = 8;
  bytes = [];
}

-- a piece where it has a size
abbrev pub if_sized : Piece → List Piece
if_sized p = cond (nat_lt 0 p.size) (p ∷ []) []

-- lists of pieces are those of objects
pub record ArePieces (objects : List LoadedObject) (ps : Pieces) : Type 0 where
  pub kept : piece_views ps.kept.items ≡ kept_sections objects
  pub got : if_sized (piece_view ps.got) ≡ got_pieces objects
  pub blocks_are : piece_views ps.blocks.items ≡ map block_piece (blocks objects)

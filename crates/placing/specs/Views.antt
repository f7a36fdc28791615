-- Pieces and places as the definitions see them.
use Rattle.std.specs.Prelude.{List, map, max}
use Rattle.std.specs.Borrow.{Bor}
use Rattle.elf_model.specs.Link.Pieces as pieces
use Rattle.placing.specs.declared.piece.Piece.{Piece}

abbrev pub piece_view : Piece → pieces.Piece
piece_view p = record {
  object = p.object;
  section = p.section;
  name = p.name.now;
  header = p.header;
  size = p.header.sh_size;
  align = max 1 p.header.sh_addralign;
  bytes = p.bytes.now;
}

abbrev pub piece_views : List Piece → List pieces.Piece
piece_views ps = map piece_view ps

-- pieces that are borrowed
abbrev pub borrowed_view : Bor Piece → pieces.Piece
borrowed_view p = piece_view p.now

abbrev pub borrowed_views : List (Bor Piece) → List pieces.Piece
borrowed_views ps = map borrowed_view ps

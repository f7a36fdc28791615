-- The checker's own types as the definitions see them.
use Rattle.std.specs.Prelude.{ℕ, List, map, max}
use Rattle.std.specs.Borrow.{Bor}
use Rattle.elf_model.specs.Link.Commons as commons
use Rattle.elf_model.specs.Link.Meaning as meaning
use Rattle.elf_model.specs.Link.Pieces as pieces
use Rattle.elf_model.specs.Link.Placement as placement
use Rattle.elf_model.specs.Link.Resolution as resolution
use Rattle.check_link.specs.declared.things.Block.{Block}
use Rattle.check_link.specs.declared.things.Meaning.{Meaning}
use Rattle.check_link.specs.declared.things.Meaning.TheVariants as variant
use Rattle.check_link.specs.declared.things.Piece.{Piece}
use Rattle.check_link.specs.declared.things.Placed.{Placed}
use Rattle.check_link.specs.declared.things.SymbolOf.{SymbolOf}

abbrev pub piece_view : Piece → pieces.Piece
piece_view p = record {
  object = p.object;
  section = p.section;
  name = p.name.now;
  header = p.header;
  size = p.header.sh_size;
  align = max 1 p.header.sh_addralign;
  bytes = p.bytes.now;
}

abbrev pub placed_view : Placed → placement.Placed
placed_view q = record { at = q.at; piece = piece_view q.piece }

abbrev pub symbol_view : SymbolOf → resolution.SymbolOf
symbol_view s = record { object = s.object; number = s.number; name = s.name.now; entry = s.entry; dropped = s.dropped }

abbrev pub piece_views : List Piece → List pieces.Piece
piece_views ps = map piece_view ps

abbrev pub placed_views : List Placed → List placement.Placed
placed_views qs = map placed_view qs

abbrev pub symbol_views : List SymbolOf → List resolution.SymbolOf
symbol_views ss = map symbol_view ss

abbrev pub block_view : Block → commons.Block
block_view b = record { object = b.object; number = b.number; name = b.name.now; size = b.size; align = max 1 b.align }

abbrev pub block_views : List Block → List commons.Block
block_views bs = map block_view bs

abbrev pub meaning_view : Meaning → meaning.Meaning
meaning_view (variant.Symbol s) = meaning.Symbol (symbol_view s)
meaning_view (variant.Common b) = meaning.Common (block_view b)
meaning_view (variant.Linker name bound) = meaning.Linker name.now bound

abbrev pub meaning_views : List Meaning → List meaning.Meaning
meaning_views ms = map meaning_view ms

-- the name of what a name means, as the code holds it
abbrev pub held_name : Meaning → Bor (List ℕ)
held_name (variant.Symbol s) = s.name
held_name (variant.Common b) = b.name
held_name (variant.Linker name bound) = name

-- the bytes to which a reference points
abbrev pub held : Bor (List ℕ) → List ℕ
held bytes = bytes.now

-- Common blocks, and all pieces of the output's memory: the kept sections and the blocks (System V gABI 4, "Symbol
-- Table", SHN_COMMON; that a block has the greatest alignment of its name's symbols, and the order, is the profile's).
use Rattle.std.specs.Prelude.{ℕ, ◌+◌, Bool, List, [], ◌∷◌, ◌++◌, Option, filter, find, length, map, max}
use Rattle.std.specs.Str.{bytes_eq}
use Rattle.elf_model.specs.Link.ChosenSymbols.{chosen_symbols}
use Rattle.elf_model.specs.Link.Loading.{LoadedObject}
use Rattle.elf_model.specs.Link.Pieces.{Piece, kept_sections}
use Rattle.elf_model.specs.Link.Resolution.{SymbolOf, common_symbols, has_name, is_common}
use Rattle.elf_model.specs.declared.constants.TheConstants.{SHF_ALLOC, SHF_WRITE, SHT_NOBITS}
use Rattle.elf_model.specs.declared.records.SectionHeader.{SectionHeader}

-- A block: its name, its size and its alignment in bytes. As a piece it is numbered like a section of one object more
-- than are loaded, so that no kept section has its numbers.
pub record Block : Type 0 where
  pub object : ℕ
  pub number : ℕ
  pub name : List ℕ
  pub size : ℕ
  pub align : ℕ

-- the greatest of numbers, 0 of none
abbrev pub greatest : List ℕ → ℕ
greatest [] = 0
greatest (n ∷ ns) = max n (greatest ns)

-- a name's common symbols, and what they ask for: the greatest size, and the greatest alignment, at least 1
abbrev pub commons_named : List LoadedObject → List ℕ → List SymbolOf
commons_named objects name = filter (has_name name) (common_symbols objects)

abbrev pub common_size : List LoadedObject → List ℕ → ℕ
common_size objects name = greatest (map (λ s. s.entry.st_size) (commons_named objects name))

abbrev pub common_align : List LoadedObject → List ℕ → ℕ
common_align objects name = max 1 (greatest (map (λ s. s.entry.st_value) (commons_named objects name)))

abbrev pub block_of : List LoadedObject → ℕ → SymbolOf → Block
block_of objects number s = record {
  object = length objects;
  number = number;
  name = s.name;
  size = common_size objects s.name;
  align = common_align objects s.name;
}

-- the blocks of symbols, from number k on
abbrev pub blocks_from : List LoadedObject → ℕ → List SymbolOf → List Block
blocks_from objects k [] = []
blocks_from objects k (s ∷ ss) = block_of objects k s ∷ blocks_from objects (k + 1) ss

-- the common symbols that are chosen, each the first of its name, in load order; and their blocks
abbrev pub is_common_symbol : SymbolOf → Bool
is_common_symbol s = is_common s.entry

abbrev pub block_symbols : List LoadedObject → List SymbolOf
block_symbols objects = filter is_common_symbol (chosen_symbols objects)

abbrev pub blocks : List LoadedObject → List Block
blocks objects = blocks_from objects 0 (block_symbols objects)

abbrev pub is_block_of : List ℕ → Block → Bool
is_block_of name b = bytes_eq b.name name

abbrev pub block_named : List LoadedObject → List ℕ → Option Block
block_named objects name = find (is_block_of name) (blocks objects)

-- A block as a piece: it takes up memory that may be written, and has no bytes in the file. It has no name as a
-- section, so no name of the linker's speaks of it; output sections are made of kept sections only.
abbrev pub block_header : Block → SectionHeader
block_header b = record {
  sh_name = 0;
  sh_type = SHT_NOBITS;
  sh_flags = SHF_WRITE + SHF_ALLOC;
  sh_addr = 0;
  sh_offset = 0;
  sh_size = b.size;
  sh_link = 0;
  sh_info = 0;
  sh_addralign = b.align;
  sh_entsize = 0;
}

abbrev pub block_piece : Block → Piece
block_piece b = record {
  object = b.object;
  section = b.number;
  name = [];
  header = block_header b;
  size = b.size;
  align = b.align;
  bytes = [];
}

abbrev pub block_pieces : List LoadedObject → List Piece
block_pieces objects = map block_piece (blocks objects)

-- all pieces: the kept sections, then the blocks, each in load order
abbrev pub pieces : List LoadedObject → List Piece
pieces objects = kept_sections objects ++ block_pieces objects

-- Common blocks as the code has them: made of the rows of a table of names, listed, and found by their names.
use Rattle.std.specs.Prelude.{◌≡◌, ℕ, ◌+◌, List, [], ◌∷◌, Option, find, map, max, option_map, unwrap_or}
use Rattle.std.specs.BTreeMap.{BTreeMap, get_by}
use Rattle.std.specs.Borrow.{Bor}
use Rattle.std.specs.Cmp.Lexicographic.{slice_cmp}
use Rattle.std.specs.Ordering.{nat_cmp}
use Rattle.elf_model.specs.Link.Commons.{Block, block_named, blocks, is_block_of}
use Rattle.elf_model.specs.Link.Loading.{LoadedObject}
use Rattle.elf_model.specs.Link.Resolution.{SymbolOf}
use Rattle.resolve.specs.declared.blocks.Block as code
use Rattle.symbols.specs.Rows.{Rows, no_row}

abbrev pub block_view : code.Block → Block
block_view b = record { object = b.object; number = b.number; name = b.name.now; size = b.size; align = b.align }

abbrev pub block_views : List code.Block → List Block
block_views bs = map block_view bs

-- the size and the alignment of a name's block by its row
abbrev pub extent_in : Rows → List ℕ → ℕ × ℕ
extent_in rows name = ((unwrap_or (rows name) no_row).common_size, max 1 (unwrap_or (rows name) no_row).common_align)

-- the blocks of symbols by the rows of their names, numbered from k on as sections of an object
abbrev pub block_by : Rows → ℕ → ℕ → SymbolOf → Block
block_by rows object k s = record {
  object = object;
  number = k;
  name = s.name;
  size = (extent_in rows s.name).0;
  align = (extent_in rows s.name).1;
}

abbrev pub blocks_by : Rows → ℕ → ℕ → List SymbolOf → List Block
blocks_by rows object k [] = []
blocks_by rows object k (s ∷ ss) = block_by rows object k s ∷ blocks_by rows object (k + 1) ss

-- what an index finds by a name, and the first block of a name in a list
abbrev pub block_in : BTreeMap (Bor (List ℕ)) code.Block → List ℕ → Option Block
block_in index n = option_map block_view (get_by (λ k. slice_cmp nat_cmp n k.now) index)

abbrev pub first_block : List Block → List ℕ → Option Block
first_block bs n = find (is_block_of n) bs

-- the blocks of the objects, in load order and by their names
pub record AreBlocks (objects : List LoadedObject) (listed : List code.Block) (index : BTreeMap (Bor (List ℕ)) code.Block) : Type 0 where
  pub listed_are : block_views listed ≡ blocks objects
  pub named : (name : List ℕ) → block_in index name ≡ block_named objects name

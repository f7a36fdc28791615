-- No two blocks have one name, so a search by a block's name finds that block.
use Rattle.std.proofs.Common.{◌≡◌, ℕ, ◌+◌, ◌≤◌, ◌&&◌, List, [], ◌∷◌, get_or, refl, arith}
use Rattle.std.specs.Prelude.{All, Some, count_by}
use Rattle.std.proofs.lemmas.Bool.{and_parts}
use Rattle.std.proofs.lemmas.Slice.Eq.{bytes_eq-Decides}
use Rattle.elf_model.specs.Link.ChosenSymbols.{chosen_symbols}
use Rattle.elf_model.specs.Link.Commons.{block_named, block_of, block_symbols, blocks, blocks_from, is_block_of, is_common_symbol}
use Rattle.elf_model.specs.Link.Loading.{LoadedObject}
use Rattle.elf_model.specs.Link.Resolution.{SymbolOf, has_name}
use Rattle.elf_model.proofs.ChosenSymbols.{chosen_once, count_filter, count_le}
use Rattle.elf_model.proofs.RisingNames.{all_found, counted}

module _ (objects : List LoadedObject) where
  blocks_from-count : (n : List ℕ) (k : ℕ) (ss : List SymbolOf) → count_by (is_block_of n) (blocks_from objects k ss) ≡ count_by (has_name n) ss
  blocks_from-count n k [] = refl
  blocks_from-count n k (s ∷ ss) =
      let c = counted (is_block_of n) (block_of objects k s) (blocks_from objects (k + 1) ss) in
      let d = counted (has_name n) s ss in
      let rest = blocks_from-count n (k + 1) ss in
      omega (arith, c, d, rest)

  -- no name is that of two blocks
  pub block_once : (n : List ℕ) → count_by (is_block_of n) (blocks objects) ≤ 1
  block_once n =
      let same = blocks_from-count n 0 (block_symbols objects) in
      let kept = count_filter is_common_symbol (has_name n) (chosen_symbols objects) in
      let fewer =
      count_le (λ s. is_common_symbol s && has_name n s) (has_name n) (chosen_symbols objects)
      (λ s t. (and_parts (is_common_symbol s) (has_name n s) t).1) in
      let once = chosen_once objects n in
      omega (arith, same, kept, fewer, once)

  -- each block is found by its name
  pub blocks_named : All (λ b. block_named objects b.name ≡ Some b) (blocks objects)
  blocks_named k d within =
      let b = get_or (blocks objects) k d in
      all_found (is_block_of b.name) (blocks objects) (block_once b.name) k d within ((bytes_eq-Decides b.name b.name).1 refl)

use Rattle.std.proofs.Common.{◌≡◌, List, ℕ, drop}
use Rattle.std.specs.Option.{option_or}
use Rattle.resolve.specs.Blocks.{block_in, block_views, first_block}
use Rattle.resolve.proofs.blocks.index_of.Given as goal

abbrev pub invariant-loop-block : goal.invariant-loop-block
invariant-loop-block l =
    (n : List ℕ) → option_or (block_in l.index n) (first_block (block_views (drop l.block-index l.blocks)) n) ≡ first_block (block_views l.blocks) n

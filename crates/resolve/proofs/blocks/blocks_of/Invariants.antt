use Rattle.std.proofs.Common.{◌≡◌, ◌++◌, drop, length}
use Rattle.resolve.specs.Blocks.{block_views, blocks_by}
use Rattle.resolve.specs.Views.{symbol_views}
use Rattle.resolve.proofs.blocks.blocks_of.Given as goal

abbrev pub invariant-loop-symbol : goal.invariant-loop-symbol
invariant-loop-symbol g l =
    block_views l.blocks.items ++ blocks_by (g.T.NameTable.rows l.table) l.object (length l.blocks.items) (symbol_views (drop l.symbol-index l.commons))
    ≡ blocks_by (g.T.NameTable.rows l.table) l.object 0 (symbol_views l.commons)

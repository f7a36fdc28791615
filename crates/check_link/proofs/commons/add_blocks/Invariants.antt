use Rattle.std.proofs.Common.{◌≡◌, ◌++◌, drop, length}
use Rattle.std.specs.Prelude.{filter}
use Rattle.elf_model.specs.Link.Commons.{blocks_from}
use Rattle.check_load.specs.Views.{loaded_views}
use Rattle.check_link.specs.Commons.{is_block_symbol}
use Rattle.check_link.specs.Views.{block_views, symbol_views}
use Rattle.check_link.proofs.commons.add_blocks.Given as goal

abbrev pub invariant-loop-symbol : goal.invariant-loop-symbol
invariant-loop-symbol l =
    block_views l.blocks.items
    ++ blocks_from (loaded_views l.objects) (length l.blocks.items) (filter (is_block_symbol l.chosen l.definitions) (symbol_views (drop l.symbol-index l.commons)))
    ≡ blocks_from (loaded_views l.objects) 0 (filter (is_block_symbol l.chosen l.definitions) (symbol_views l.commons))

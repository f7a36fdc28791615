use Rattle.std.proofs.Common.{◌≡◌, ℕ, List, drop}
use Rattle.std.specs.Prelude.{find}
use Rattle.std.specs.Option.{option_or}
use Rattle.elf_model.specs.Link.Commons.{is_block_of}
use Rattle.check_link.specs.Commons.{block_in}
use Rattle.check_link.specs.Views.{block_views}
use Rattle.check_link.proofs.commons.index_blocks.Given as goal

abbrev pub invariant-loop-block : goal.invariant-loop-block
invariant-loop-block l =
    (name : List ℕ) → option_or (block_in l.index name) (find (is_block_of name) (block_views (drop l.block-index l.blocks)))
    ≡ find (is_block_of name) (block_views l.blocks)

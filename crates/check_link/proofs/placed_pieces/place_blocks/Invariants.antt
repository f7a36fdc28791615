use Rattle.std.proofs.Common.{◌≡◌, ◌++◌, drop}
use Rattle.elf_model.specs.Link.Placement.{placed_blocks}
use Rattle.check_link.specs.Views.{block_views, placed_views}
use Rattle.check_link.proofs.placed_pieces.place_blocks.Given as goal

abbrev pub invariant-loop-block : goal.invariant-loop-block
invariant-loop-block l =
    placed_views l.placed.items ++ placed_blocks l.lines (block_views (drop l.block-index l.blocks))
    ≡ placed_views l.initial.placed.items ++ placed_blocks l.lines (block_views l.blocks)

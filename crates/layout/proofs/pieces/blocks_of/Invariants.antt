use Rattle.std.proofs.Common.{◌≡◌, ◌++◌, drop, map}
use Rattle.elf_model.specs.Link.Commons.{block_piece}
use Rattle.resolve.specs.Blocks.{block_views}
use Rattle.placing.specs.Views.{piece_views}
use Rattle.layout.proofs.pieces.blocks_of.Given as goal

abbrev pub invariant-loop-block : goal.invariant-loop-block
invariant-loop-block l =
    piece_views l.pieces.items ++ map block_piece (block_views (drop l.block-index l.blocks)) ≡ map block_piece (block_views l.blocks)

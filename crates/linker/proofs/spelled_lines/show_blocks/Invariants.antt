use Rattle.std.proofs.Common.{drop}
use Rattle.std.specs.Prelude.{All}
use Rattle.elf_model.specs.Link.Commons.{Block}
use Rattle.elf_model.specs.Link.Meaning.{Common}
use Rattle.resolve.specs.Blocks.{block_views}
use Rattle.linker.specs.Spelled.{FitsLines}
use Rattle.linker.proofs.spelled_lines.show_blocks.Given as goal

abbrev pub invariant-loop-block : goal.invariant-loop-block
invariant-loop-block l =
    All (λ (b : Block). FitsLines l.placement (Common b)) (block_views (drop l.block-index l.blocks))
    → All (λ (b : Block). FitsLines l.placement (Common b)) (block_views l.blocks)

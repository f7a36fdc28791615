use Rattle.std.proofs.Common.{arith}
use Rattle.elf_model.specs.Link.Commons.{Block}
use Rattle.elf_model.specs.Link.Meaning.{Common}
use Rattle.resolve.specs.Blocks.{block_view}
use Rattle.linker.specs.Spelled.{FitsLines}
use Rattle.linker.proofs.Spellings.{none_left, views_fit}
use Rattle.linker.proofs.spelled_lines.show_blocks.Goals as goal

pub loop-block-preserved : goal.loop-block-preserved
loop-block-preserved c = λ rest.
    c.loop-block.invariant
    (views_fit (λ (b : Block). FitsLines c.args.placement.now (Common b)) block_view c.args.blocks.now c.loop-block.block-index _ c.loop-block-test.true c.show_block.ensures rest)

pub returns : goal.returns
returns c =
    let past = c.loop-block-test.false in
    c.loop-block.invariant
    (none_left (λ (b : Block). FitsLines c.args.placement.now (Common b)) block_view c.args.blocks.now c.loop-block.block-index (omega (arith, past)))

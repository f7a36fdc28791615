use Rattle.std.specs.Prelude.{All}
use Rattle.elf_model.proofs.Rests.{all_more}
use Rattle.elf_model.specs.Image.RightLink.{HasCommonLine}
use Rattle.check_link.specs.declared.things.Block.{Block}
use Rattle.check_link.proofs.common_lines.CommonLines.have_lines.Goals as goal

pub loop-block-preserved : goal.loop-block-preserved
loop-block-preserved c =
    all_more (All (λ (b : Block). HasCommonLine c.args.self.now c.args.names.now b.name.now) c.args.blocks.now)
    (λ (b : Block). HasCommonLine c.args.self.now c.args.names.now b.name.now) c.args.blocks.now c.loop-block.block-index _ c.loop-block-test.true
    (c.has_line.ensures.0 c.if-not-has_line.false) c.loop-block.invariant

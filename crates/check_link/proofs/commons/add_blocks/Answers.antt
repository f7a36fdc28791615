use Rattle.std.proofs.Common.{arith}
use Rattle.check_load.specs.Views.{loaded_views}
use Rattle.check_link.specs.Commons.{is_block_symbol}
use Rattle.check_link.proofs.Asked.{blocks_end, blocks_step}
use Rattle.check_link.proofs.commons.add_blocks.Goals as goal

pub loop-symbol-preserved : goal.loop-symbol-preserved
loop-symbol-preserved c =
    let xs = c.args.commons.now in
    blocks_step (loaded_views c.args.objects.now) (is_block_symbol c.args.chosen.now c.args.definitions.now) xs c.loop-symbol.symbol-index _ _ _ _ _
    c.loop-symbol-test.true c.is_block_symbol-wanted.ensures c.in_ok-add_block.ensures c.loop-symbol.invariant

pub returns : goal.returns
returns c =
    let xs = c.args.commons.now in
    blocks_end (loaded_views c.args.objects.now) (is_block_symbol c.args.chosen.now c.args.definitions.now) xs c.loop-symbol.symbol-index _ _
    (omega (arith, c.loop-symbol-test.false)) c.loop-symbol.invariant

use Rattle.debug_image.specs.Layouts.{laid_in}
use Rattle.debug_image.proofs.RowSteps.{rows_more}
use Rattle.debug_image.proofs.symbol_rows.local_rows.Goals as goal

pub loop-k-preserved : goal.loop-k-preserved
loop-k-preserved c =
    rows_more (laid_in c.args.layout.now) _ _ _ c.args.layout.now.objects.now c.loop-k.k c.loaded-item.result
    c.loop-k-test.true c.loaded-item.is c.in_ok-add_object.ensures c.loop-k.invariant

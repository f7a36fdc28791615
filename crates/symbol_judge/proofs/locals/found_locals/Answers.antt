use Rattle.symbol_judge.proofs.LocalSteps.{object_kept}
use Rattle.symbol_judge.proofs.locals.found_locals.Goals as goal

pub loop-k-preserved : goal.loop-k-preserved
loop-k-preserved c =
    object_kept c.args.meanings.now c.args.names.now _ _ _ c.objects-objects.result.now c.loop-k.k c.index-objects-k.result c.loop-k-test.true
    c.index-objects-k.is c.in_ok-add_locals.ensures c.loop-k.invariant

use Rattle.linker.proofs.Spellings.{objects_fit}
use Rattle.linker.proofs.spelled_lines.show_objects.Goals as goal

pub loop-k-preserved : goal.loop-k-preserved
loop-k-preserved c = λ rest.
    c.loop-k.invariant
    (objects_fit c.args.objects.now c.loop-k.k c.index-objects-k.result c.loop-k-test.true c.index-objects-k.is c.show_object.ensures rest)

use Rattle.linker.proofs.Spellings.{contents_fit}
use Rattle.debug_main.proofs.read_back.show_contents.Goals as goal

pub loop-k-preserved : goal.loop-k-preserved
loop-k-preserved c = λ rest.
    c.loop-k.invariant
    (contents_fit c.args.objects.now c.loop-k.k c.index-objects-k.result c.loop-k-test.true c.index-objects-k.is c.show_content.ensures rest)

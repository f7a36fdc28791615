use Rattle.check_link.proofs.Defined.{definitions_more}
use Rattle.check_link.proofs.definition_list.numbers_of.Goals as goal

pub loop-k-preserved : goal.loop-k-preserved
loop-k-preserved c =
    definitions_more _ _ _ c.args.objects.now c.loop-k.k c.index-objects-k.result c.loop-k-test.true c.index-objects-k.is
    c.in_ok-add_numbers.ensures c.loop-k.invariant

use Rattle.std.proofs.Common.{◌∙◌, ◌+◌}
use Rattle.resolve.proofs.Walks.{next_object, symbols_here, symbols_left}
use Rattle.flaws.proofs.Twins.{offered_more}
use Rattle.flaws.proofs.strong_names.offer_all.Goals as goal

pub loop-k-preserved : goal.loop-k-preserved
loop-k-preserved g c =
    let xs = c.args.objects.now in
    let k = c.loop-k.k in
    let one = c.index-objects-k.result in
    let is = next_object xs k one c.loop-k-test.true c.index-objects-k.is in
    offered_more (symbols_left k xs) (symbols_here k one) (symbols_left (k + 1) xs) (g.T.NameTable.rows c.loop-k.table) (g.T.NameTable.rows c.offer_symbols.new.table)
    is c.in_ok-offer_symbols.ensures
    ∙ c.loop-k.invariant

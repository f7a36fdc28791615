use Rattle.std.proofs.Common.{◌+◌, ap, drop}
use Rattle.resolve.proofs.Walks.{next_loaded}
use Rattle.search.specs.Views.{loaded_view, loaded_views}
use Rattle.flaws.proofs.Additions.{one_more}
use Rattle.flaws.specs.Flaws.{AreAdded}
use Rattle.wrong_references.specs.Overlaps.{AddsOverlaps, numbered}
use Rattle.wrong_references.proofs.overlaps.add_all_overlaps.Goals as goal

pub loop-k-preserved : goal.loop-k-preserved
loop-k-preserved c =
    let xs = c.args.objects.now in
    let objects = loaded_views xs in
    let k = c.loop-k.k in
    let one = c.index-objects-k.result in
    one_more AddsOverlaps (AreAdded AddsOverlaps (numbered 0 objects) c.args.flaws.now.items) (numbered k (drop k objects)) (numbered (k + 1) (drop (k + 1) objects))
    c.loop-k.flaws.items c.add_overlaps.new.flaws.items c.loop-k.invariant (k, loaded_view one)
    (ap (numbered k) (next_loaded xs k one c.loop-k-test.true c.index-objects-k.is)) c.in_ok-add_overlaps.ensures

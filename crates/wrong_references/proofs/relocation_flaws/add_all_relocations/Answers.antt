use Rattle.std.proofs.Common.{◌+◌, ap, drop}
use Rattle.resolve.proofs.Walks.{next_loaded}
use Rattle.search.specs.KeptLists.{kept_relas}
use Rattle.search.specs.Views.{loaded_view, loaded_views}
use Rattle.flaws.specs.Flaws.{AreAdded}
use Rattle.wrong_references.specs.Entries.{entries, entries_of, entries_of_relas}
use Rattle.wrong_references.specs.References.{AddsEntry, told_by}
use Rattle.flaws.proofs.Additions.{some_more}
use Rattle.wrong_references.proofs.relocation_flaws.add_all_relocations.Goals as goal

pub loop-k-preserved : goal.loop-k-preserved
loop-k-preserved g c =
    let xs = c.args.objects.now in
    let objects = loaded_views xs in
    let all = c.args.resolved.now in
    let k = c.loop-k.k in
    let one = c.index-objects-k.result in
    let start = told_by c.args.flaws.now.items (g.T.NameTable.rows c.args.names.now) in
    some_more (AddsEntry all) (AreAdded (AddsEntry all) (entries objects) start) (entries_of k (drop k objects)) (entries_of (k + 1) (drop (k + 1) objects))
    (told_by c.loop-k.flaws.items (g.T.NameTable.rows c.loop-k.names)) (told_by c.add_object.new.flaws.items (g.T.NameTable.rows c.add_object.new.names))
    c.loop-k.invariant (entries_of_relas k (loaded_view one) (kept_relas (loaded_view one)))
    (ap (entries_of k) (next_loaded xs k one c.loop-k-test.true c.index-objects-k.is)) c.in_ok-add_object.ensures

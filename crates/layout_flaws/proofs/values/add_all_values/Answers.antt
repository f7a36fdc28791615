use Rattle.std.proofs.Common.{◌+◌, List, ap, arith, drop, refl, subst, sym}
use Rattle.std.proofs.lemmas.List.{drop_all, length-map}
use Rattle.elf_model.specs.Link.Loading.{LoadedObject}
use Rattle.relocate.specs.Values.{where_in}
use Rattle.resolve.proofs.Walks.{next_loaded}
use Rattle.search.specs.KeptLists.{kept_relas}
use Rattle.search.specs.Views.{loaded_view, loaded_views}
use Rattle.flaws.proofs.Additions.{some_more}
use Rattle.flaws.specs.Flaws.{AreAdded}
use Rattle.wrong_references.specs.Entries.{entries, entries_of, entries_of_relas}
use Rattle.layout_flaws.specs.LayoutFlaws.{AddsUnfit}
use Rattle.layout_flaws.proofs.values.add_all_values.Goals as goal

pub loop-k-preserved : goal.loop-k-preserved
loop-k-preserved c =
    let xs = c.args.objects.now in
    let objects = loaded_views xs in
    let all = c.args.laid.resolved.now in
    let w = where_in c.args.laid.placement.now in
    let k = c.loop-k.k in
    let one = c.index-objects-k.result in
    some_more (AddsUnfit all w) (AreAdded (AddsUnfit all w) (entries objects) c.args.flaws.now.items) (entries_of k (drop k objects)) (entries_of (k + 1) (drop (k + 1) objects))
    c.loop-k.flaws.items c.add_object.new.flaws.items c.loop-k.invariant (entries_of_relas k (loaded_view one) (kept_relas (loaded_view one)))
    (ap (entries_of k) (next_loaded xs k one c.loop-k-test.true c.index-objects-k.is)) c.in_ok-add_object.ensures

pub returns : goal.returns
returns c =
    let xs = c.args.objects.now in
    let all = c.args.laid.resolved.now in
    let w = where_in c.args.laid.placement.now in
    let k = c.loop-k.k in
    let end = c.loop-k.flaws.items in
    let left = drop_all k (loaded_views xs) (omega (arith, c.loop-k-test.false, length-map xs loaded_view)) in
    c.loop-k.invariant end (subst (λ (os : List LoadedObject). AreAdded (AddsUnfit all w) (entries_of k os) end end) (sym left) refl)

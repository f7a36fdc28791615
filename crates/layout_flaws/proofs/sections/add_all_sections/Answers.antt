use Rattle.std.proofs.Common.{◌+◌, ap, drop}
use Rattle.elf_model.specs.Inputs.ObjectFile.{sections}
use Rattle.elf_model.specs.Link.Pieces.{kept_sections, pieces_from, pieces_of}
use Rattle.search.specs.Views.{loaded_view, loaded_views}
use Rattle.resolve.proofs.Walks.{next_loaded}
use Rattle.flaws.proofs.Additions.{some_more}
use Rattle.flaws.specs.Flaws.{AreAdded}
use Rattle.layout_flaws.specs.LayoutFlaws.{AddsLarge}
use Rattle.layout_flaws.proofs.sections.add_all_sections.Goals as goal

pub loop-k-preserved : goal.loop-k-preserved
loop-k-preserved c =
    let base = c.args.base in
    let xs = c.args.objects.now in
    let objects = loaded_views xs in
    let k = c.loop-k.k in
    let one = c.index-objects-k.result in
    some_more (AddsLarge base) (AreAdded (AddsLarge base) (kept_sections objects) c.args.flaws.now.items) (pieces_of k (drop k objects)) (pieces_of (k + 1) (drop (k + 1) objects))
    c.loop-k.flaws.items c.add_sections.new.flaws.items c.loop-k.invariant (pieces_from k (loaded_view one) 0 (sections one.object))
    (ap (pieces_of k) (next_loaded xs k one c.loop-k-test.true c.index-objects-k.is)) c.in_ok-add_sections.ensures

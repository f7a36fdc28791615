use Rattle.std.proofs.Common.{ℕ, List, subst}
use Rattle.std.specs.Prelude.{OnOk}
use Rattle.elf_model.specs.Link.Loading.{LoadedObject}
use Rattle.layout.specs.Placements.{Basis}
use Rattle.relocate.specs.SymbolTables.{all_valued, where_of}
use Rattle.relocate.specs.Values.{where_in}
use Rattle.search.specs.KeptLists.{kept_relas}
use Rattle.search.specs.Views.{loaded_view}
use Rattle.flaws.specs.Flaws.{AreAdded}
use Rattle.wrong_references.specs.Entries.{entries_of_relas}
use Rattle.layout_flaws.specs.LayoutFlaws.{AddsUnfit}
use Rattle.layout_flaws.proofs.values.add_object.Goals as goal

pub returns : goal.returns
returns c =
    let v = c.in_ok-valued.valued in
    let e = c.in_ok-valued.ensures in
    let o = loaded_view c.args.one.now in
    let k = c.args.k in
    let r = c.add_relas.result in
    let s = c.args.flaws.now.items in
    let t = c.add_relas.new.flaws.items in
    subst (λ (os : List LoadedObject). OnOk r (AreAdded (AddsUnfit os (where_in c.args.laid.placement.now)) (entries_of_relas k o (kept_relas o)) s t)) e.all
    (subst (λ (b : Basis). OnOk r (AreAdded (AddsUnfit (all_valued v) (where_in b)) (entries_of_relas k o (kept_relas o)) s t)) e.placed
    (subst (λ (n : ℕ). OnOk r (AreAdded (AddsUnfit (all_valued v) (where_of v)) (entries_of_relas n o (kept_relas o)) s t)) e.number
    (subst (λ (x : LoadedObject). OnOk r (AreAdded (AddsUnfit (all_valued v) (where_of v)) (entries_of_relas v.number x (kept_relas x)) s t)) e.own c.add_relas.ensures)))

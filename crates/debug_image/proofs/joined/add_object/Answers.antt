use Rattle.std.proofs.Common.{◌++◌, ◌∷◌, [], List, subst, sym}
use Rattle.std.proofs.lemmas.List.{map-append}
use Rattle.std.specs.Global.{Vec}
use Rattle.elf_model.specs.Link.Placement.{Placed}
use Rattle.placing.specs.PlaceViews.{place_views}
use Rattle.placing.specs.declared.runs.Place.{Place}
use Rattle.search.specs.Views.{loaded_view}
use Rattle.debug_image.specs.DataIndexes.{AreAll, DataIndex, IsIndex}
use Rattle.debug_image.specs.DebugViews.{row_view, row_views}
use Rattle.debug_image.proofs.IndexSteps.{all_more}
use Rattle.debug_image.proofs.joined.add_object.Goals as goal

pub returns-clause-index : goal.returns-clause-index
returns-clause-index c = λ os all.
    let o = loaded_view c.args.loaded.now in
    let rows = c.args.rows.now.items in
    let row = c.in_ok-places.places in
    let d = c.in_ok-index_of.field-0 in
    let is = subst (λ (qs : List Place). IsIndex o (place_views qs) d) c.deref-2.ensures.value c.in_ok-index_of.ensures in
    subst (λ (rs : List (Vec Place)). AreAll (os ++ o ∷ []) (row_views rs) c.push.new.self.items) (sym c.in_ok-push-2.ensures.items)
    (subst (λ (ds : List DataIndex). AreAll (os ++ o ∷ []) (row_views (rows ++ row ∷ [])) ds) (sym c.in_ok-push.ensures.items)
    (subst (λ (qs : List (List Placed)). AreAll (os ++ o ∷ []) qs (c.args.index.now.items ++ d ∷ [])) (sym (map-append row_view rows (row ∷ [])))
    (all_more os (row_views rows) c.args.index.now.items o (row_view row) d all is)))

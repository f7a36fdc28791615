use Rattle.std.proofs.Common.{◌≡◌, ◌+◌, ◌++◌, ◌∷◌, ◌∙◌, [], List, ap, get_or, subst, sym, take}
use Rattle.std.proofs.lemmas.List.{map-append, take_more}
use Rattle.elf_model.specs.Link.Placement.{Placed}
use Rattle.placing.proofs.RunSteps.{no_place}
use Rattle.placing.specs.PlaceViews.{place_view, place_views}
use Rattle.debug_image.specs.DataIndexes.{AreOffsets}
use Rattle.debug_image.proofs.data_index.places_of.Goals as goal

pub loop-place-preserved : goal.loop-place-preserved
loop-place-preserved c =
    let qs = c.args.row.now in
    let k = c.loop-place.place-index in
    let next : place_views (take (k + 1) qs) ≡ place_views (take k qs) ++ place_view (get_or qs k no_place) ∷ [] =
    ap place_views (take_more qs k no_place c.loop-place-test.true) ∙ map-append place_view (take k qs) (get_or qs k no_place ∷ []) in record {
      offsets =
          subst (λ (row : List Placed). AreOffsets row c.add_place.new.index) (sym next)
          (c.in_ok-add_place.ensures.offsets (place_views (take k qs)) c.loop-place.invariant.offsets);
      relas = c.in_ok-add_place.ensures.relas c.loop-place.invariant.relas;
    }

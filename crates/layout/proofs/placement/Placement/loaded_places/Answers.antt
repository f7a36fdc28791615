use Rattle.std.proofs.Common.{◌∙◌, List, ap, take}
use Rattle.elf_model.specs.Own.OwnLayout.{own_loaded, own_thread_rest}
use Rattle.layout.specs.Placements.{Basis}
use Rattle.placing.specs.PlaceViews.{place_views}
use Rattle.placing.specs.declared.runs.Place.{Place}
use Rattle.layout.proofs.OwnThreads.{loaded_front}
use Rattle.layout.proofs.placement.Placement.loaded_places.Goals as goal

pub returns : goal.returns
returns c =
    let base = c.self.inside.base in
    let objects = c.self.inside.loaded.objects in
    let n = c.self.inside.tables.loaded in
    ap place_views (c.split_at.ensures.front ∙ ap (λ (ps : List Place). take n ps) c.deref.ensures.value)
    ∙ (loaded_front c.self.inside.tables.places.items n (own_loaded base objects) (own_thread_rest base objects) c.self.invariant.0.places_are c.self.invariant.0.loaded_are
    ∙ ap (λ (b : Basis). own_loaded b.base b.objects) c.self.view_is)

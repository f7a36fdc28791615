-- The bytes of places with fill between them, one more place at a time.
use Rattle.std.proofs.Common.{◌≡◌, ℕ, ◌+◌, ◌<◌, ◌≤◌, Bool, true, false, cond, List, ◌∷◌, ◌++◌, get_or, drop, length, ◌∙◌, ap, subst}
use Rattle.elf_model.specs.Link.Loading.{LoadedObject}
use Rattle.elf_model.specs.Own.OwnLayout.{placed_end}
use Rattle.elf_model.specs.Link.Placement.{Placed, Where}
use Rattle.placing.specs.PlaceViews.{place_view, place_views}
use Rattle.placing.specs.declared.runs.Place.{Place}
use Rattle.elf_model.proofs.Rests.{rest_at}
use Rattle.image_write.specs.Parts.{Rise, body_from, bytes_of, fill_run, is_written}
use Rattle.image_write.specs.declared.fill_bytes.Code.{Code}
use Rattle.image_write.proofs.BodyBytes.{rise_order}

pub places_left : (places : List Place) (i : ℕ) (d : Place) → i < length places → place_views (drop i places) ≡ place_view (get_or places i d) ∷ place_views (drop (i + 1) places)
places_left places i d within = ap place_views (rest_at places i d within)

-- the places that are left follow each other
pub rise_left :
    (x to : ℕ) (places : List Place) (i : ℕ) (d : Place) → i < length places → Rise x to (place_views (drop i places)) →
    Rise x to (place_view (get_or places i d) ∷ place_views (drop (i + 1) places))
rise_left x to places i d within rise = subst (Rise x to) (places_left places i d within) rise

-- a place that has bytes ends at or below the last address
pub place_ends :
    (x to : ℕ) (places : List Place) (i : ℕ) (d : Place) → i < length places → is_written (place_view (get_or places i d)) ≡ true →
    Rise x to (place_views (drop i places)) → placed_end (place_view (get_or places i d)) ≤ to
place_ends x to places i d within written rise =
    let q : Placed = place_view (get_or places i d) in
    let r = (rise_left x to places i d within rise).0 written in
    rise_order (placed_end q) to (place_views (drop (i + 1) places)) r.1

-- the bytes that are left where the next place has bytes, and where it has none
pub body_written :
    (objects : List LoadedObject) (w : Where) (c : Code) (to x : ℕ) (places : List Place) (i : ℕ) (d : Place) → i < length places →
    is_written (place_view (get_or places i d)) ≡ true →
    body_from objects w c to x (place_views (drop i places))
    ≡ fill_run c x (place_view (get_or places i d)).at ++ (bytes_of objects w (place_view (get_or places i d)).piece ++ body_from objects w c to (placed_end (place_view (get_or places i d))) (place_views (drop (i + 1) places)))
body_written objects w c to x places i d within written =
    let q : Placed = place_view (get_or places i d) in
    let rest = place_views (drop (i + 1) places) in
    ap (λ (qs : List Placed). body_from objects w c to x qs) (places_left places i d within)
    ∙ ap (λ (b : Bool). cond b (fill_run c x q.at ++ (bytes_of objects w q.piece ++ body_from objects w c to (placed_end q) rest)) (body_from objects w c to x rest)) written

pub body_skipped :
    (objects : List LoadedObject) (w : Where) (c : Code) (to x : ℕ) (places : List Place) (i : ℕ) (d : Place) → i < length places →
    is_written (place_view (get_or places i d)) ≡ false →
    body_from objects w c to x (place_views (drop i places)) ≡ body_from objects w c to x (place_views (drop (i + 1) places))
body_skipped objects w c to x places i d within skipped =
    let q : Placed = place_view (get_or places i d) in
    let rest = place_views (drop (i + 1) places) in
    ap (λ (qs : List Placed). body_from objects w c to x qs) (places_left places i d within)
    ∙ ap (λ (b : Bool). cond b (fill_run c x q.at ++ (bytes_of objects w q.piece ++ body_from objects w c to (placed_end q) rest)) (body_from objects w c to x rest)) skipped

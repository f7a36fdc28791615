-- Steps over sections of debug data, from one to the next.
use Rattle.std.proofs.Common.{◌≡◌, ◌<◌, ℕ, List, get_or, length, subst, sym}
use Rattle.std.specs.Prelude.{All}
use Rattle.elf_model.proofs.Listed.{All-unmap}
use Rattle.placing.specs.PlaceViews.{place_view, place_views}
use Rattle.placing.specs.declared.runs.Place.{Place}
use Rattle.std.specs.Global.{Vec}
use Rattle.debug_image.specs.DebugSections.{AreLow, EndsLow}
use Rattle.debug_image.specs.DebugViews.{row_view, row_views}

-- each of some sections at their offsets ends low
pub low_at :
    (ps : List Place) → All EndsLow (place_views ps) → (k : ℕ) (d : Place) → k < length ps → EndsLow (place_view (get_or ps k d))
low_at ps all k d within = All-unmap EndsLow place_view ps all k d within

-- so all of each row do
pub row_low :
    (rows : List (Vec Place)) → AreLow (row_views rows) → (k : ℕ) (d : Vec Place) → k < length rows → d ≡ get_or rows k d → All EndsLow (row_view d)
row_low rows all k d within is = subst (λ (r : Vec Place). All EndsLow (row_view r)) (sym is) (All-unmap (All EndsLow) row_view rows all k d within)

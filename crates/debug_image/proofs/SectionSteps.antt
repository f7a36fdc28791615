-- Steps over the places of an image, from one to the next.
use Rattle.std.proofs.Common.{◌≡◌, ◌≤◌, ◌<◌, ◌^◌, ◌+◌, ◌∷◌, ℕ, List, drop, get_or, length, ◌∙◌, ap, subst, sym}
use Rattle.std.specs.Prelude.{All}
use Rattle.std.proofs.lemmas.List.{at_drop_more, drop-map}
use Rattle.std.proofs.lemmas.List.Elements.{All-drop}
use Rattle.elf_model.proofs.Listed.{All-unmap}
use Rattle.elf_model.specs.Own.OwnLayout.{placed_end}
use Rattle.placing.specs.PlaceViews.{place_view, place_views}
use Rattle.placing.specs.declared.runs.Place.{Place}
use Rattle.debug_image.specs.Sections.{Section, sections_from}

-- each of some places ends low
pub low_at :
    (ps : List Place) → All (λ q. placed_end q ≤ 2 ^ 46) (place_views ps) → (k : ℕ) (d : Place) → k < length ps →
    placed_end (place_view (get_or ps k d)) ≤ 2 ^ 46
low_at ps all k d within = All-unmap (λ q. placed_end q ≤ 2 ^ 46) place_view ps all k d within

-- the sections of what is left, with the first place of it
pub sections_left :
    (count : ℕ) (s : Section) (ps : List Place) (k : ℕ) (d : Place) → k < length ps →
    sections_from count s (place_views (drop k ps)) ≡ sections_from count s (place_view (get_or ps k d) ∷ place_views (drop (k + 1) ps))
sections_left count s ps k d within = at_drop_more (λ xs. sections_from count s (place_views xs)) ps k d within

pub low_rest :
    (ps rest : List Place) (n : ℕ) → All (λ q. placed_end q ≤ 2 ^ 46) (place_views ps) → rest ≡ drop n ps →
    All (λ q. placed_end q ≤ 2 ^ 46) (place_views rest)
low_rest ps rest n all is =
    subst (All (λ q. placed_end q ≤ 2 ^ 46)) (drop-map place_view n ps ∙ ap place_views (sym is))
    (All-drop (λ q. placed_end q ≤ 2 ^ 46) n (place_views ps) all)

use Rattle.std.proofs.Common.{◌≡◌, ◌++◌, drop}
use Rattle.placing.specs.PlaceViews.{place_views}
use Rattle.debug_image.specs.Sections.{sections_from}
use Rattle.debug_image.specs.SectionViews.{section_view, section_views}
use Rattle.debug_image.proofs.sections.add_sections.Given as goal

abbrev pub invariant-loop-place : goal.invariant-loop-place
invariant-loop-place l =
    section_views l.found.items ++ sections_from l.count (section_view l.current) (place_views (drop l.place-index l.places))
    ≡ section_views l.fn.found.items ++ sections_from l.count (section_view l.fn.first) (place_views l.places)

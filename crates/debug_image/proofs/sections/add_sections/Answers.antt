use Rattle.std.proofs.Common.{◌++◌, ◌+◌, ◌∙◌, List, ap, drop, sym}
use Rattle.placing.specs.PlaceViews.{place_views}
use Rattle.placing.proofs.RunSteps.{no_place}
use Rattle.debug_image.specs.Sections.{Section}
use Rattle.debug_image.specs.SectionViews.{section_view, section_views}
use Rattle.debug_image.proofs.SectionSteps.{low_at, sections_left}
use Rattle.debug_image.proofs.sections.add_sections.Goals as goal

pub next-requires : goal.next-requires
next-requires c = low_at c.args.places.now c.requires c.loop-place.place-index no_place c.loop-place-test.true

pub loop-place-preserved : goal.loop-place-preserved
loop-place-preserved c =
    let k = c.loop-place.place-index in
    c.in_ok-current.ensures (place_views (drop (k + 1) c.args.places.now))
    ∙ (ap (λ (ss : List Section). section_views c.loop-place.found.items ++ ss)
    (sym (sections_left c.args.count (section_view c.loop-place.current) c.args.places.now k no_place c.loop-place-test.true))
    ∙ c.loop-place.invariant)

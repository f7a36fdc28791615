use Rattle.std.proofs.Common.{◌++◌, ◌∙◌, ap, sym}
use Rattle.placing.specs.PlaceViews.{place_view}
use Rattle.debug_image.specs.Sections.{Section, sections_from}
use Rattle.debug_image.specs.SectionViews.{section_view, section_views}
use Rattle.debug_image.proofs.Runs.{other_section}
use Rattle.debug_image.proofs.sections.next.Goals as goal

pub returns : goal.returns
returns c = λ qs.
    ap (λ (s : Section). section_views c.add_section.new.found.items ++ sections_from c.args.count s qs) c.begun.ensures
    ∙ other_section c.args.count (section_view c.args.current.now) (place_view c.args.place.now) qs (section_views c.args.found.now.items)
    (section_views c.add_section.new.found.items) (sym c.if-is_same_section.ensures) c.in_ok-add_section.ensures

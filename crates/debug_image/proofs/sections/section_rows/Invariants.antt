use Rattle.std.proofs.Common.{◌≡◌, ◌++◌, drop}
use Rattle.debug_image.specs.Sections.{section_rows}
use Rattle.debug_image.specs.SectionViews.{section_views}
use Rattle.debug_image.specs.Views.{header_views}
use Rattle.debug_image.proofs.sections.section_rows.Given as goal

abbrev pub invariant-loop-section : goal.invariant-loop-section
invariant-loop-section l =
    header_views l.rows.items ++ section_rows l.base l.count (section_views (drop l.section-index l.sections))
    ≡ section_rows l.base l.count (section_views l.sections)

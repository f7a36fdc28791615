-- Sections as the definitions see them.
use Rattle.std.specs.Prelude.{List, map}
use Rattle.debug_image.specs.Sections as sections
use Rattle.debug_image.specs.declared.sections.Section.{Section}
use Rattle.placing.specs.PlaceViews.{place_view}

abbrev pub section_view : Section → sections.Section
section_view s = record { first = place_view s.first; end = s.end; align = s.align }

abbrev pub section_views : List Section → List sections.Section
section_views ss = map section_view ss

use Rattle.std.proofs.Common.{◌≡◌, drop}
use Rattle.std.specs.Prelude.{◌==◌}
use Rattle.std.specs.List.{position_from}
use Rattle.debug_image.specs.Sections.{blocks_number}
use Rattle.debug_image.specs.SectionViews.{section_views}
use Rattle.debug_image.proofs.sections.blocks_number.Given as goal

abbrev pub invariant-loop-k : goal.invariant-loop-k
invariant-loop-k l =
    position_from (λ s. s.first.piece.object == l.count) l.k (section_views (drop l.k l.sections))
    ≡ blocks_number l.count (section_views l.sections)

use Rattle.std.proofs.Common.{◌≡◌, ◌++◌, ◌∷◌, drop}
use Rattle.debug_image.specs.Tables.{row_titles}
use Rattle.debug_image.specs.Views.{header_views}
use Rattle.debug_image.proofs.headers.section_titles.Given as goal

abbrev pub invariant-loop-row : goal.invariant-loop-row
invariant-loop-row l = l.titles.items ++ row_titles (header_views (drop l.row-index l.rows)) ≡ 0 ∷ row_titles (header_views l.rows)

use Rattle.std.proofs.Common.{◌≡◌, false}
use Rattle.std.specs.List.{list_any, range_with_len}
use Rattle.search.specs.Views.{loaded_view}
use Rattle.debug_image.specs.Reports.{holds_compressed}
use Rattle.debug_image.proofs.reports.has_compressed.Given as goal

abbrev pub invariant-loop-i : goal.invariant-loop-i
invariant-loop-i l = list_any (holds_compressed (loaded_view l.loaded)) (range_with_len 0 l.i) ≡ false

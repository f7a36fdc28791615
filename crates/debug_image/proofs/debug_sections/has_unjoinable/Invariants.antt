use Rattle.std.proofs.Common.{◌≡◌, false}
use Rattle.std.specs.List.{list_any, range_with_len}
use Rattle.search.specs.Views.{loaded_view}
use Rattle.debug_image.specs.DebugSections.{is_unjoinable}
use Rattle.debug_image.proofs.debug_sections.has_unjoinable.Given as goal

abbrev pub invariant-loop-i : goal.invariant-loop-i
invariant-loop-i l = list_any (is_unjoinable (loaded_view l.loaded)) (range_with_len 0 l.i) ≡ false

use Rattle.std.proofs.Common.{◌≡◌, ◌≤◌}
use Rattle.std.specs.Prelude.{count_by}
use Rattle.std.specs.List.{range_with_len}
use Rattle.search.specs.Views.{loaded_view}
use Rattle.debug_image.specs.DebugSections.{holds_debug_data}
use Rattle.debug_image.proofs.reports.sections_in.Given as goal

abbrev pub invariant-loop-i : goal.invariant-loop-i
invariant-loop-i l = record {
  exact : l.count ≡ count_by (holds_debug_data (loaded_view l.loaded)) (range_with_len 0 l.i);
  most : l.count ≤ l.i;
}

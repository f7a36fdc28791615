use Rattle.std.proofs.Common.{◌≡◌, ◌≤◌}
use Rattle.std.specs.Prelude.{sum_by}
use Rattle.std.specs.List.{range_with_len}
use Rattle.search.specs.Views.{loaded_view}
use Rattle.debug_image.specs.LongNames.{name_size}
use Rattle.debug_image.proofs.long_names.has_long_names.Given as goal

abbrev pub invariant-loop-j : goal.invariant-loop-j
invariant-loop-j l = record {
  exact : l.size ≡ sum_by (name_size (loaded_view l.loaded)) (range_with_len 0 l.j);
  short : l.size ≤ l.most;
}

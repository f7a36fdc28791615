use Rattle.std.proofs.Common.{◌≡◌, ◌+◌, ◌*◌, ◌^◌, ◌≤◌, drop}
use Rattle.debug_image.specs.DebugSections.{data_end}
use Rattle.debug_image.specs.DebugViews.{joined_views}
use Rattle.debug_image.proofs.chunks.data_end.Given as goal

abbrev pub invariant-loop-one : goal.invariant-loop-one
invariant-loop-one l = record {
  left : data_end l.at (joined_views (drop l.one-index l.joined)) ≡ data_end l.end (joined_views l.joined);
  low : l.at ≤ 2 ^ 46 + 2 ^ 41 * l.one-index;
}

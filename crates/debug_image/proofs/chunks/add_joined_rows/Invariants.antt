use Rattle.std.proofs.Common.{◌≡◌, ◌++◌, ◌+◌, ◌*◌, ◌^◌, ◌≤◌, drop}
use Rattle.debug_image.specs.DebugSections.{joined_rows}
use Rattle.debug_image.specs.DebugViews.{joined_views}
use Rattle.debug_image.specs.Views.{header_views}
use Rattle.debug_image.proofs.chunks.add_joined_rows.Given as goal

abbrev pub invariant-loop-one : goal.invariant-loop-one
invariant-loop-one l = record {
  rows :
      header_views l.rows.items ++ joined_rows l.at (joined_views (drop l.one-index l.joined))
      ≡ header_views l.fn.rows.items ++ joined_rows l.end (joined_views l.joined);
  low : l.at ≤ 2 ^ 46 + 2 ^ 41 * l.one-index;
}

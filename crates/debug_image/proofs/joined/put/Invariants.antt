use Rattle.std.proofs.Common.{◌≡◌, ◌++◌, drop, take}
use Rattle.debug_image.specs.DebugSections.{replaced}
use Rattle.debug_image.specs.DebugViews.{joined_view, joined_views}
use Rattle.debug_image.proofs.joined.put.Given as goal

abbrev pub invariant-loop-k : goal.invariant-loop-k
invariant-loop-k l = record {
  same : l.joined.items ≡ l.fn.joined.items;
  left :
      joined_views (take l.k l.joined.items) ++ replaced (joined_views (drop l.k l.joined.items)) (joined_view l.more)
      ≡ replaced (joined_views l.joined.items) (joined_view l.more);
}

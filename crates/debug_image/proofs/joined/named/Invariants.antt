use Rattle.std.proofs.Common.{◌≡◌, drop}
use Rattle.debug_image.specs.DebugSections.{named}
use Rattle.debug_image.specs.DebugViews.{joined_views}
use Rattle.debug_image.proofs.joined.named.Given as goal

abbrev pub invariant-loop-one : goal.invariant-loop-one
invariant-loop-one l =
    named (joined_views (drop l.one-index l.joined)) l.name ≡ named (joined_views l.joined) l.name

use Rattle.std.proofs.Common.{◌≡◌, drop}
use Rattle.search.specs.Views.{loaded_views}
use Rattle.debug_image.specs.DebugSections.{flags_from, left_flags}
use Rattle.debug_image.proofs.left_objects.left_flags.Given as goal

abbrev pub invariant-loop-loaded : goal.invariant-loop-loaded
invariant-loop-loaded l =
    flags_from (loaded_views l.objects) l.flags.items (drop l.loaded-index (loaded_views l.objects)) ≡ left_flags (loaded_views l.objects)

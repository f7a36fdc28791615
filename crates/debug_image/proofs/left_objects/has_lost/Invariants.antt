use Rattle.std.proofs.Common.{◌≡◌, false, take}
use Rattle.std.specs.List.{list_any}
use Rattle.search.specs.Views.{loaded_view}
use Rattle.debug_image.specs.DebugSections.{is_lost}
use Rattle.debug_image.proofs.left_objects.has_lost.Given as goal

abbrev pub invariant-loop-number : goal.invariant-loop-number
invariant-loop-number l = list_any (is_lost (loaded_view l.loaded)) (take l.number-index l.numbers) ≡ false

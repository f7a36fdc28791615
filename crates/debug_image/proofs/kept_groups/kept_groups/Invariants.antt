use Rattle.std.proofs.Common.{take}
use Rattle.search.specs.Views.{loaded_views}
use Rattle.debug_image.specs.KeptGroups.{groups_from}
use Rattle.debug_image.specs.KeptTables.{AreKept}
use Rattle.debug_image.proofs.kept_groups.kept_groups.Given as goal

abbrev pub invariant-loop-k : goal.invariant-loop-k
invariant-loop-k l = AreKept (groups_from 0 (loaded_views (take l.k l.objects))) l.kept

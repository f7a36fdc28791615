use Rattle.std.proofs.Common.{◌++◌, List, map, take}
use Rattle.elf_model.specs.Inputs.ObjectFile.{groups}
use Rattle.search.specs.Views.{loaded_view}
use Rattle.debug_image.specs.KeptGroups.{ObjectGroup, group_in}
use Rattle.debug_image.specs.KeptTables.{AreKept}
use Rattle.debug_image.proofs.kept_groups.add_groups.Given as goal

abbrev pub invariant-loop-group : goal.invariant-loop-group
invariant-loop-group l =
    (seen : List ObjectGroup) → AreKept seen l.fn.kept →
    AreKept (seen ++ map (group_in l.number (loaded_view l.loaded)) (take l.group-index (groups l.loaded.object))) l.kept

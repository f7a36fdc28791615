use Rattle.std.proofs.Common.{◌≡◌, List, false, take}
use Rattle.std.specs.List.{list_any}
use Rattle.elf_model.specs.Inputs.ObjectFile.{groups}
use Rattle.elf_model.specs.Link.Loading.{LoadedObject}
use Rattle.search.specs.Views.{loaded_view}
use Rattle.debug_image.specs.DebugSections.{relies_on_left}
use Rattle.debug_image.specs.KeptGroups.{groups_from}
use Rattle.debug_image.specs.KeptTables.{AreKept}
use Rattle.debug_image.proofs.left_objects.has_relying_group.Given as goal

abbrev pub invariant-loop-group : goal.invariant-loop-group
invariant-loop-group l =
    (objects : List LoadedObject) → AreKept (groups_from 0 objects) l.kept →
    list_any (relies_on_left objects l.flags (loaded_view l.loaded)) (take l.group-index (groups l.loaded.object)) ≡ false

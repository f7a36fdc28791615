use Rattle.std.proofs.Common.{◌≡◌, ℕ, List, option_map, take, true}
use Rattle.std.specs.Prelude.{find}
use Rattle.std.specs.BTreeMap.{get}
use Rattle.std.specs.Ordering.{nat_cmp}
use Rattle.elf_model.specs.Inputs.ObjectFile.{groups}
use Rattle.elf_model.specs.Link.Loading.{is_dropped}
use Rattle.search.specs.Views.{loaded_view}
use Rattle.debug_image.specs.KeptGroups.{ObjectGroup, lists, stand_in_among}
use Rattle.debug_image.specs.KeptTables.{AreKept}
use Rattle.debug_image.proofs.stand_ins.stand_ins_of.Given as goal

abbrev pub invariant-loop-group : goal.invariant-loop-group
invariant-loop-group l =
    (seen : List ObjectGroup) → AreKept seen l.kept → (m : ℕ) → is_dropped (loaded_view l.loaded) m ≡ true →
    get nat_cmp l.table m ≡ option_map (stand_in_among seen (loaded_view l.loaded) m) (find (lists m) (take l.group-index (groups l.loaded.object)))

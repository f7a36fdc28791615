use Rattle.std.proofs.Common.{◌≡◌, ℕ, List, None, Some, cond, take, true}
use Rattle.std.specs.Prelude.{nat_eq}
use Rattle.std.specs.BTreeMap.{get}
use Rattle.std.specs.List.{list_any}
use Rattle.std.specs.Option.{option_and_then, option_or}
use Rattle.std.specs.Ordering.{nat_cmp}
use Rattle.elf_model.specs.Link.Loading.{is_dropped}
use Rattle.search.specs.Views.{loaded_view}
use Rattle.debug_image.specs.KeptGroups.{ObjectGroup, member_like}
use Rattle.debug_image.specs.KeptTables.{AreKept, kept_found}
use Rattle.debug_image.proofs.stand_ins.add_members.Given as goal

abbrev pub invariant-loop-member : goal.invariant-loop-member
invariant-loop-member l =
    (seen : List ObjectGroup) (a : AreKept seen l.kept) (m : ℕ) → is_dropped (loaded_view l.loaded) m ≡ true →
    get nat_cmp l.table m
    ≡ option_or (get nat_cmp l.fn.table m)
    (cond (list_any (nat_eq m) (take l.member-index l.members)) (Some (option_and_then (member_like (loaded_view l.loaded) m) (kept_found a l.found))) None)
